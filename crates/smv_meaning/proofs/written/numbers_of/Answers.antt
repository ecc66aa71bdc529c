use Rattle.std.proofs.Common.{◌≡◌, ℕ, drop, ap, ◌∙◌, arith}
use Rattle.smv_meaning.specs.Runs.{written_value}
use Rattle.smv_meaning.proofs.written.numbers_of.Goals as goal

pub returns : goal.returns
returns c =
    let none : c.loop-left.left ≡ 0 = omega arith in
    λ text. c.loop-left.invariant.same text ∙ ap (λ (k : ℕ). written_value (drop k c.args.values.now) text) none
