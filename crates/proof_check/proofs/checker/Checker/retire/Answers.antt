use Rattle.std.proofs.Common.{length}
use Rattle.proof_check.proofs.RoomLemmas.{KeepsTogether-retire}
use Rattle.proof_check.proofs.checker.Checker.retire.Goals as goal
use Rattle.proof_check.proofs.checker.Checker.retire.Goals.{then-retire, else-retire}

pub invariant_of-self : goal.invariant_of-self
invariant_of-self c = elim c.if-retire.branch [
  | then-retire w ↦ rw w.if-retire.ensures.retired (KeepsTogether-retire c.self.inside.axioms.items c.self.inside.lines c.args.number (length c.self.inside.marks) c.self.invariant)
  | else-retire w ↦ rw w.if-retire.ensures.kept c.self.invariant
]
