use Rattle.std.proofs.Common.{◌≡◌, ◌+◌, ◌++◌, ◌∷◌, [], None, Result, Ok, Err, ℕ, subst, sym, refl}
use Rattle.std.specs.Prelude.{OnOk, OnErr}
use Rattle.sat_arena.specs.declared.trail.Assigned.{Assigned}
use Rattle.sat_arena.specs.Justified.{current_level}
use Rattle.sat_arena.specs.Trails.{IsOrderly}
use Rattle.sat_arena.specs.PropagatorState.{PropagatorState}
use Rattle.sat_search.specs.Solvers.{IsSolver}
use Rattle.sat_search.specs.LoopEnds.{AreSettled}
use Rattle.sat_search.specs.declared.solver.Solver.{Solver}
use Rattle.sat_search.proofs.ReadyLemmas.{IsSolver-decided}
use Rattle.sat_search.proofs.solver.Solver.decide.Goals as goal

-- the entry was pushed, or nothing has changed
decided : {T E : Type 0} (r : Result T E) (solver : Solver) (p : PropagatorState) (entry : Assigned) → IsSolver solver → AreSettled solver → entry.level ≡ current_level solver.propagator.entries + 1 → entry.reason ≡ None
    → OnOk r (p ≡ record solver.propagator { entries = solver.propagator.entries ++ entry ∷ [] }) → OnErr r (p ≡ solver.propagator) → IsOrderly p.entries p.vars → IsSolver (record { log = solver.log; propagator = p; order = solver.order })
decided (Ok x) solver p entry keeps settled level none ok err orderly = IsSolver-decided solver p entry keeps settled.settled level none ok orderly
decided (Err e) solver p entry keeps settled level none ok err orderly =
    subst (λ (q : PropagatorState). IsSolver (record { log = solver.log; propagator = q; order = solver.order })) (sym err) keeps

pub returns-clause-solver : goal.returns-clause-solver
returns-clause-solver c =
    decided c.decide-decided.result c.args.self.now c.decide-decided.new.self (record { lit = c.args.lit; level = current_level c.args.self.now.propagator.entries + 1; reason = None }) c.requires.solver c.requires.settled refl refl
    c.decide-decided.ensures.ok c.decide-decided.ensures.err c.entries-entries.ensures.orderly
