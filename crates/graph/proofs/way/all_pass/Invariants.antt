use Rattle.std.proofs.Common.{◌≡◌, drop}
use Rattle.fixpoint.specs.Fixpoints.{entry}
use Rattle.graph.specs.Ways as spec
use Rattle.graph.proofs.way.all_pass.Given as goal

abbrev pub invariant-loop-k : goal.invariant-loop-k
invariant-loop-k l = spec.all_pass (entry l.levels) l.goal l.level (drop l.k-index l.vertices) ≡ spec.all_pass (entry l.levels) l.goal l.level l.vertices
