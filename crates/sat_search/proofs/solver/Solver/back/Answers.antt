use Rattle.sat_search.proofs.ReadyLemmas.{IsSolver-back}
use Rattle.sat_search.proofs.solver.Solver.back.Goals as goal

pub returns-clause-solver : goal.returns-clause-solver
returns-clause-solver c = IsSolver-back c.args.self.now c.back.new.self c.release.new.self c.args.level _ c.requires c.release.ensures c.back.ensures
