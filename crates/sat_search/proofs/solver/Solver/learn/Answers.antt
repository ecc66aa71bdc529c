use Rattle.std.proofs.Common.{List, subst, ap}
use Rattle.std.specs.Prelude.{IfOk}
use Rattle.sat_arena.specs.Stored.{Stored}
use Rattle.sat_arena.specs.TrailState.{TrailState}
use Rattle.sat_analyze.specs.Learnt.{IsLearnt}
use Rattle.sat_search.proofs.solver.Solver.learn.Goals as goal

pub returns : goal.returns
returns c =
    subst (λ (ss : List Stored). IfOk c.learn.result (IsLearnt ss c.args.self.now.propagator.entries)) c.arena.ensures
    (subst (λ (t : TrailState). IfOk c.learn.result (IsLearnt c.arena.result.now.stored t.entries)) c.trail.ensures c.learn.ensures)
