use Rattle.std.proofs.Common.{◌≡◌, ℕ, take, length}
use Rattle.sat_lits.specs.Steps.{negated}
use Rattle.proof_check.specs.Marks.{marked}
use Rattle.proof_check.proofs.steps.insert_negations.Given as goal

abbrev pub invariant-loop-lit : goal.invariant-loop-lit
invariant-loop-lit l = record {
  negated : (m : ℕ) → marked l.marks m ≡ negated (take l.lit-index l.lits) m;
  length : length l.marks ≡ length l.fn.marks;
}
