-- What a search keeps between its steps.
use Rattle.std.specs.Prelude.{◌≡◌, ℕ, ◌⊎◌, List, [], ◌∷◌, Some, All, Contains}
use Rattle.fsmv_base.specs.declared.citation.Id.{Id}
use Rattle.sat_lits.specs.Literals.{variable_of}
use Rattle.sat_lits.specs.Steps.{named}
use Rattle.proof_log.specs.Logged.{Logged, live_lines}
use Rattle.sat_arena.specs.declared.trail.Assigned.{Assigned}
use Rattle.sat_arena.specs.Stored.{Stored}
use Rattle.sat_arena.specs.ArenaState.{clauses_of, AreGrown}
use Rattle.sat_arena.specs.Trails.{IsOrderly}
use Rattle.sat_arena.specs.Justified.{current_level, IsJustified}
use Rattle.sat_analyze.specs.Derived.{AreNamed, HasVariable}
use Rattle.sat_arena.specs.Levels.{IsSettledBelow}
use Rattle.sat_search.specs.declared.solver.Solver.{Solver}

-- the clause is one of these, or holds the literal of a unit clause among them
abbrev pub IsCovered : List (List ℕ) → List ℕ → Type 0
IsCovered clauses clause = Contains clauses clause
    ⊎ ((l : ℕ) × Contains clause l × Contains clauses (l ∷ []))

-- the stored clauses are axioms and live lines of the log, under their ids, and each axiom or live line is stored, or
-- holds the literal of a unit clause that is
pub record KeepsLog (log : Logged) (stored : List Stored) : Type 0 where
  pub names : AreNamed log.axioms (live_lines log.lines) stored
  pub listed : (id : Id) (clause : List ℕ) → named log.axioms (live_lines log.lines) id
      ≡ Some clause → IsCovered (clauses_of stored) clause
  pub variables : All (λ clause. All (λ l. HasVariable log.axioms (variable_of l)) clause)
      (clauses_of stored)

-- the entries are in order, each has its cause, and propagation had nothing to do at the end of each level but the last
pub record IsReady (clauses : List (List ℕ)) (entries : List Assigned) (vars : ℕ) : Type 0 where
  pub orderly : IsOrderly entries vars
  pub justified : IsJustified clauses entries
  pub settled : IsSettledBelow (current_level entries) entries clauses

-- the parts of a solver fit each other
pub record IsSolver (solver : Solver) : Type 0 where
  pub keeps : KeepsLog solver.log solver.propagator.stored
  pub ready : IsReady (clauses_of solver.propagator.stored) solver.propagator.entries solver.propagator.vars
  pub order_vars : solver.order ≡ solver.propagator.vars
  pub grown : AreGrown solver.propagator.vars (clauses_of solver.propagator.stored)
