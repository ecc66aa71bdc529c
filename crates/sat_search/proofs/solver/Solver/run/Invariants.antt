use Rattle.std.proofs.Common.{◌≡◌, ◌-◌, length}
use Rattle.sat_search.specs.Solvers.{IsSolver}
use Rattle.sat_search.specs.Assumed.{AssumesFirst}
use Rattle.sat_search.specs.Endings.{ContinuesTo}
use Rattle.sat_search.proofs.solver.Solver.run.Given as goal

abbrev pub invariant-loop-answer : goal.invariant-loop-answer
invariant-loop-answer l = record {
  vars : l.self.propagator.vars ≡ l.fn.self.propagator.vars;
  solver : IsSolver l.self;
  assumes : AssumesFirst l.assumptions l.self.propagator.entries;
  continues : ContinuesTo l.fn.self.log l.self.log l.most;
}

abbrev pub decreases-loop-answer : goal.decreases-loop-answer
decreases-loop-answer l = l.most - length l.self.log.lines
