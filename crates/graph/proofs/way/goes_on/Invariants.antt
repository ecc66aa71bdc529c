use Rattle.std.proofs.Common.{◌≡◌, drop}
use Rattle.fixpoint.specs.Fixpoints.{entry}
use Rattle.graph.specs.Ways as spec
use Rattle.graph.proofs.way.goes_on.Given as goal

abbrev pub invariant-loop-k : goal.invariant-loop-k
invariant-loop-k l = spec.goes_on (entry l.levels) l.goal l.level l.next (drop l.k-index l.vertices) ≡ spec.goes_on (entry l.levels) l.goal l.level l.next l.vertices
