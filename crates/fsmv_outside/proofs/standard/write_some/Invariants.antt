use Rattle.std.specs.Io.KnownBytes.{Keeps}
use Rattle.fsmv_outside.proofs.standard.write_some.Given as goal

-- an interrupted write writes nothing
abbrev pub invariant-loop : goal.invariant-loop
invariant-loop g l = Keeps (g.W.Write.contents l.initial.out) (g.W.Write.contents l.out)
