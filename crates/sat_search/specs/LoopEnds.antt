-- Where the search for values ends before anything is learnt.
use Rattle.std.specs.Prelude.{◌≡◌, ℕ, ◌<◌, true, List, [], length, slice_index_or, All, Contains}
use Rattle.sat_lits.specs.Literals.{negation}
use Rattle.sat_arena.specs.Trails.{true_in}
use Rattle.sat_arena.specs.Settled.{IsSettled}
use Rattle.sat_arena.specs.ArenaState.{clauses_of}
use Rattle.sat_arena.specs.Deduced.{IsConflict}
use Rattle.sat_arena.specs.Justified.{current_level}
use Rattle.sat_analyze.specs.Learnt.{IsNewlyFalse}
use Rattle.sat_search.specs.Orders.{AllAssigned}
use Rattle.sat_search.specs.Assumed.{AllTrue}
use Rattle.sat_search.specs.declared.solver.Solver.{Solver}
use Rattle.sat_search.specs.declared.decide_loop.LoopEnd.{LoopEnd}
use Rattle.sat_search.specs.declared.decide_loop.LoopEnd.TheVariants.{Model, Refused, Conflict}

-- every clause is settled, and no entry is left in the queue
pub record AreSettled (solver : Solver) : Type 0 where
  pub settled : All (IsSettled (true_in solver.propagator.entries)) (clauses_of solver.propagator.stored)
  pub done : solver.propagator.head ≡ length solver.propagator.entries

-- the clause at the position is false, and became so at the current_level level
abbrev pub IsNewConflict : Solver → ℕ → Type 0
IsNewConflict solver position =
    IsConflict (clauses_of solver.propagator.stored) solver.propagator.entries position
    × (0 < current_level solver.propagator.entries
    → IsNewlyFalse solver.propagator.entries
    (slice_index_or (clauses_of solver.propagator.stored) position []))

-- a decide_loop ended with values for all variables, at a false assumption, or at a false clause
abbrev pub HasLoopEnd : List ℕ → Solver → LoopEnd → Type 0
HasLoopEnd assumptions solver Model = AreSettled solver × AllTrue assumptions solver.propagator.entries
    × AllAssigned solver.propagator.vars (true_in solver.propagator.entries)
HasLoopEnd assumptions solver (Refused lit) = Contains assumptions lit
    × (true_in solver.propagator.entries (negation lit) ≡ true)
HasLoopEnd assumptions solver (Conflict position) = IsNewConflict solver position
