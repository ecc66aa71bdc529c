use Rattle.std.proofs.Common.{◌≡◌, ℕ, Option, Some, None, subst, sym}
use Rattle.std.specs.Prelude.{IfSome, List}
use Rattle.sat_arena.specs.Stored.{Stored}
use Rattle.sat_arena.specs.ArenaState.{clauses_of}
use Rattle.sat_arena.specs.Deduced.{IsConflict}
use Rattle.sat_search.specs.declared.solver.Solver.{Solver}
use Rattle.sat_search.specs.Solvers.{IsSolver}
use Rattle.sat_search.specs.LoopEnds.{IsNewConflict}
use Rattle.sat_search.proofs.ReadyLemmas.{IsSolver-deduced, newly_false}
use Rattle.sat_search.proofs.solver.Solver.propagate.Goals as goal

pub returns-clause-solver : goal.returns-clause-solver
returns-clause-solver c =
    IsSolver-deduced c.args.self.now c.propagate-conflict.new.self c.requires c.propagate-conflict.ensures.stored c.propagate-conflict.ensures.vars c.propagate-conflict.ensures.deduced c.entries-entries.ensures.orderly

-- a false clause, among clauses that stayed the same
conflict_is_new : (solver : Solver) (old : List Stored) (r : Option ℕ) → IsSolver solver → solver.propagator.stored ≡ old → IfSome r (IsConflict (clauses_of old) solver.propagator.entries) → IfSome r (IsNewConflict solver)
conflict_is_new solver old None keeps same conflict = tt
conflict_is_new solver old (Some position) keeps same conflict =
    let here = subst (λ (stored : List Stored). IsConflict (clauses_of stored) solver.propagator.entries position) (sym same) conflict in
    (here, λ above. newly_false (clauses_of solver.propagator.stored) solver.propagator.entries solver.propagator.vars position keeps.ready here above)

pub returns-clause-conflict : goal.returns-clause-conflict
returns-clause-conflict c =
    conflict_is_new (record { log = c.args.self.now.log; propagator = c.propagate-conflict.new.self; order = c.args.self.now.order }) c.args.self.now.propagator.stored c.propagate-conflict.result
    (returns-clause-solver c) c.propagate-conflict.ensures.stored c.propagate-conflict.ensures.conflict
