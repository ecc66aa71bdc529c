use Rattle.sat_arena.specs.ArenaState.{clauses_of}
use Rattle.sat_arena.specs.Justified.{current_level}
use Rattle.sat_search.proofs.ReadyLemmas.{AssumesFirst-deduced}
use Rattle.sat_search.proofs.solver.Solver.decide_all.Goals as goal

pub returns-in-Some-clause-assumes : goal.returns-in-Some-clause-assumes
returns-in-Some-clause-assumes c =
    AssumesFirst-deduced c.args.assumptions.now (clauses_of c.args.self.now.propagator.stored) (current_level c.args.self.now.propagator.entries) c.args.self.now.propagator.entries c.propagate.new.self.propagator.entries c.propagate.ensures.deduced c.requires.assumes

pub assume-requires-clause-assumes : goal.assume-requires-clause-assumes
assume-requires-clause-assumes c =
    AssumesFirst-deduced c.args.assumptions.now (clauses_of c.args.self.now.propagator.stored) (current_level c.args.self.now.propagator.entries) c.args.self.now.propagator.entries c.propagate.new.self.propagator.entries c.propagate.ensures.deduced c.requires.assumes
