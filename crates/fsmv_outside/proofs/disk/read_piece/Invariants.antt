use Rattle.std.specs.Io.KnownBytes.{Keeps}
use Rattle.fsmv_outside.proofs.disk.read_piece.Given as goal

-- an interrupted read reads nothing
abbrev pub invariant-loop : goal.invariant-loop
invariant-loop g l = Keeps (g.F.Read.remaining l.initial.file) (g.F.Read.remaining l.file)
