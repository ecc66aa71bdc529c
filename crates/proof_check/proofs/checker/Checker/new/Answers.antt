use Rattle.std.proofs.Common.{length}
use Rattle.proof_check.proofs.RoomLemmas.{KeepsTogether-start}
use Rattle.proof_check.proofs.checker.Checker.new.Goals as goal

pub invariant_of-result : goal.invariant_of-result
invariant_of-result c =
    rw (c.in_ok-axioms.ensures.same, c.new.ensures) (KeepsTogether-start c.args.axioms.now (length c.copies.new.marks) c.in_ok-axioms.ensures.room)
