use Rattle.graph.specs.Ways as spec
use Rattle.graph.proofs.way.are_on.Given as goal

abbrev pub invariant-loop-position : goal.invariant-loop-position
invariant-loop-position l = spec.AreOn l.graph l.goal l.vertices l.levels l.position
