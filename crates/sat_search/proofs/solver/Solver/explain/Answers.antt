use Rattle.std.proofs.Common.{List, subst, ap}
use Rattle.std.specs.Prelude.{IfOk}
use Rattle.sat_arena.specs.Stored.{Stored}
use Rattle.sat_arena.specs.TrailState.{TrailState}
use Rattle.sat_analyze.specs.Learnt.{IsFinal}
use Rattle.sat_search.proofs.solver.Solver.explain.Goals as goal

pub returns : goal.returns
returns c =
    subst (λ (ss : List Stored). IfOk c.final_clause.result (IsFinal ss c.args.self.now.propagator.entries c.args.lit)) c.arena.ensures
    (subst (λ (t : TrailState). IfOk c.final_clause.result (IsFinal c.arena.result.now.stored t.entries c.args.lit)) c.trail.ensures c.final_clause.ensures)
