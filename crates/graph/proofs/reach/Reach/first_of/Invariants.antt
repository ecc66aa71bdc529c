use Rattle.std.proofs.Common.{◌≡◌, drop, nat_eq}
use Rattle.std.specs.List.{find}
use Rattle.fixpoint.specs.Fixpoints.{entry}
use Rattle.graph.specs.Graphs as spec
use Rattle.graph.proofs.reach.Reach.first_of.Given as goal

abbrev pub invariant-loop-c : goal.invariant-loop-c
invariant-loop-c l = find (spec.leads nat_eq l.self.goal l.self.avoided.now (entry l.table)) (drop l.c-index l.vertices) ≡ find (spec.leads nat_eq l.self.goal l.self.avoided.now (entry l.table)) l.vertices
