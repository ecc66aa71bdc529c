use Rattle.std.proofs.Common.{◌≡◌, ◌≤◌, length, drop, find}
use Rattle.std.specs.Str.{bytes_eq}
use Rattle.smv_meaning.specs.Scopes.{scope_found, names_by}
use Rattle.smv_meaning.specs.Value.{Name}
use Rattle.smv_meaning.proofs.scope.modules_by_name.Given as goal

abbrev pub invariant-loop-left : goal.invariant-loop-left
invariant-loop-left l = record {
  within : l.left ≤ length l.scopes;
  same : (name : Name) → names_by l.scopes l.numbers name ≡ scope_found (find (λ s. bytes_eq s.name.now name) (drop l.left l.scopes));
}

abbrev pub decreases-loop-left : goal.decreases-loop-left
decreases-loop-left l = l.left
