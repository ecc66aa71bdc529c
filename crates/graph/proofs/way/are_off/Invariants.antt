use Rattle.graph.specs.Ways as spec
use Rattle.graph.proofs.way.are_off.Given as goal

abbrev pub invariant-loop-k : goal.invariant-loop-k
invariant-loop-k l = spec.AreOff l.graph l.goal l.vertices l.levels l.k
