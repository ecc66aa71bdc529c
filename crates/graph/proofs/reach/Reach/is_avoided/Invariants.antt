use Rattle.std.proofs.Common.{◌≡◌, drop, nat_eq}
use Rattle.graph.specs.Graphs as spec
use Rattle.graph.proofs.reach.Reach.is_avoided.Given as goal

abbrev pub invariant-loop-p : goal.invariant-loop-p
invariant-loop-p l = spec.among nat_eq (drop l.p-index l.self.avoided.now) l.c ≡ spec.among nat_eq l.self.avoided.now l.c
