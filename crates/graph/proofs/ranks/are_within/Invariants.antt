-- The vertices that are left are within the rank exactly where all are.
use Rattle.std.proofs.Common.{◌≡◌, drop}
use Rattle.graph.specs.Ranks as spec
use Rattle.graph.proofs.ranks.are_within.Given as goal

abbrev pub invariant-loop-k : goal.invariant-loop-k
invariant-loop-k l = spec.are_within l.ranks l.highest (drop l.k-index l.vertices) ≡ spec.are_within l.ranks l.highest l.vertices
