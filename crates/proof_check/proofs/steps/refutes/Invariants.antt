use Rattle.std.proofs.Common.{◌≡◌, ◌↔◌, length, drop}
use Rattle.sat_lits.specs.Steps.{named, Refutes}
use Rattle.proof_check.specs.Marks.{marked}
use Rattle.proof_check.proofs.steps.refutes.Given as goal

abbrev pub invariant-loop-i : goal.invariant-loop-i
invariant-loop-i l = record {
  suffix : Refutes (named l.axioms l.lines) (marked l.marks) (drop l.i l.hints) ↔ Refutes (named l.axioms l.lines) (marked l.fn.marks) l.hints;
  length : length l.marks ≡ length l.fn.marks;
}
