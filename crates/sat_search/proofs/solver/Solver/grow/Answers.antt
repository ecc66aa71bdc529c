use Rattle.sat_search.proofs.GrowthLemmas.{IsSolver-grown}
use Rattle.sat_search.proofs.solver.Solver.grow.Goals as goal

pub returns-clause-solver : goal.returns-clause-solver
returns-clause-solver c = IsSolver-grown c.args.self.now c.grow.new.self c.grow-2.new.self c.args.vars c.requires c.in_ok-grow.ensures.ok c.in_ok-grow-2.ensures.ok
