use Rattle.std.proofs.Common.{◌≡◌, ◌+◌, ◌-◌, length}
use Rattle.sat_search.specs.Solvers.{IsSolver}
use Rattle.sat_search.specs.Assumed.{AllTrue, AssumesFirst}
use Rattle.sat_search.specs.LoopEnds.{AreSettled}
use Rattle.sat_search.proofs.solver.Solver.decide_open.Given as goal

abbrev pub invariant-loop-lit : goal.invariant-loop-lit
invariant-loop-lit l = record {
  others : l.self ≡ record l.fn.self { propagator = l.self.propagator; order = l.self.order };
  vars : l.self.propagator.vars ≡ l.fn.self.propagator.vars;
  solver : IsSolver l.self;
  settled : AreSettled l.self;
  assumes : AssumesFirst l.assumptions l.self.propagator.entries;
  assumed : AllTrue l.assumptions l.self.propagator.entries;
}

abbrev pub decreases-loop-lit : goal.decreases-loop-lit
decreases-loop-lit l = l.self.propagator.vars + 2 - length l.self.propagator.entries
