use Rattle.std.proofs.Common.{◌≡◌, ◌-◌, nat_eq}
use Rattle.fixpoint.specs.Fixpoints.{most}
use Rattle.graph.specs.Graphs as spec
use Rattle.graph.proofs.cycle.cycle_by_tables.Given as goal

abbrev pub invariant-loop-round : goal.invariant-loop-round
invariant-loop-round l = spec.cycle_from (spec.successors_in l.graph) nat_eq (most - l._round) l.goal l.cycle l.last ≡ spec.cycle_of (spec.successors_in l.graph) nat_eq l.goal
