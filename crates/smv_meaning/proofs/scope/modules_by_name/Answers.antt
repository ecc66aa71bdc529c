use Rattle.std.proofs.Common.{◌≡◌, ℕ, drop, find, ap, ◌∙◌, arith}
use Rattle.std.specs.Str.{bytes_eq}
use Rattle.smv_meaning.specs.Scopes.{scope_found}
use Rattle.smv_meaning.proofs.ScopeLemmas.{found_view}
use Rattle.smv_meaning.proofs.scope.modules_by_name.Goals as goal

pub returns : goal.returns
returns c =
    let none : c.loop-left.left ≡ 0 = omega arith in
    λ name. c.loop-left.invariant.same name
    ∙ (ap (λ (k : ℕ). scope_found (find (λ s. bytes_eq s.name.now name) (drop k c.args.scopes.now))) none
    ∙ found_view c.args.scopes.now name)
