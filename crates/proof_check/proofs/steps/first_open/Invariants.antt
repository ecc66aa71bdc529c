use Rattle.std.proofs.Common.{◌≡◌, ◌<◌, ◌≤◌, ℕ, true, slice_index}
use Rattle.sat_lits.specs.Literals.{negation}
use Rattle.proof_check.specs.Marks.{marked}
use Rattle.proof_check.proofs.steps.first_open.Given as goal

abbrev pub invariant-loop-position : goal.invariant-loop-position
invariant-loop-position l = (k : ℕ) → l.from ≤ k → k < l.position → marked l.marks (negation (slice_index l.lits k)) ≡ true
