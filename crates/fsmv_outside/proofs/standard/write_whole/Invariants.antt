use Rattle.std.proofs.Common.{length}
use Rattle.fsmv_outside.proofs.KnownBytes.{HasWritten}
use Rattle.fsmv_outside.proofs.standard.write_whole.Given as goal

abbrev pub invariant-loop-suffix : goal.invariant-loop-suffix
invariant-loop-suffix g l =
    HasWritten (g.W.Write.contents l.initial.out) (g.W.Write.contents l.out) l.piece l.suffix

abbrev pub decreases-loop-suffix : goal.decreases-loop-suffix
decreases-loop-suffix g l = length l.suffix
