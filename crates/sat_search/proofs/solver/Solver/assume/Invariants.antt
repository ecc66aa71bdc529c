use Rattle.std.proofs.Common.{◌≡◌, take}
use Rattle.sat_search.specs.Solvers.{IsSolver}
use Rattle.sat_search.specs.Assumed.{AllTrue, AssumesFirst}
use Rattle.sat_search.specs.LoopEnds.{AreSettled}
use Rattle.sat_search.proofs.solver.Solver.assume.Given as goal

abbrev pub invariant-loop-assumption : goal.invariant-loop-assumption
invariant-loop-assumption l = record {
  others : l.self ≡ record l.fn.self { propagator = l.self.propagator };
  vars : l.self.propagator.vars ≡ l.fn.self.propagator.vars;
  solver : IsSolver l.self;
  settled : AreSettled l.self;
  assumes : AssumesFirst l.assumptions l.self.propagator.entries;
  assumed : AllTrue (take l.assumption-index l.assumptions) l.self.propagator.entries;
}
