-- Assumptions, and what becomes of a search under them.
use Rattle.std.specs.Prelude.{◌≡◌, ℕ, ◌==◌, ◌<◌, length, Bool, true, None, Some, List, take, All, Contains, ◌⊎◌}
use Rattle.std.specs.List.{list_any}
use Rattle.fsmv_base.specs.declared.citation.Id.{Id}
use Rattle.sat_lits.specs.Steps.{IsFalsified, named}
use Rattle.proof_log.specs.Logged.{Logged, live_lines}
use Rattle.sat_arena.specs.declared.trail.Assigned.{Assigned}
use Rattle.sat_arena.specs.Trails.{true_in, marked}
use Rattle.sat_arena.specs.Justified.{IsEntryAt}

-- the literals that are assumed
abbrev pub assumed : List ℕ → (ℕ → Bool)
assumed assumptions = λ l. list_any (λ a. a == l) assumptions

-- these literals have their flags, by their codes, and no others have one
pub record HasFlagsOf (flags : List Bool) (lits : List ℕ) : Type 0 where
  pub same : (l : ℕ) → marked flags l ≡ assumed lits l
  pub within : All (λ l. l < length flags) lits

-- the literals are all true
abbrev pub AllTrue : List ℕ → List Assigned → Type 0
AllTrue lits entries = All (λ a. true_in entries a ≡ true) lits

-- assumptions were decided before all else: each decision is one of them, or was made when all were true
pub record AssumesFirst (assumptions : List ℕ) (entries : List Assigned) : Type 0 where
  pub first : (i : ℕ) (entry : Assigned) → IsEntryAt entries i entry → entry.reason ≡ None
      → Contains assumptions entry.lit ⊎ AllTrue assumptions (take i entries)

-- the id names an axiom or a live line that is false where these literals are true
pub record IsFalsifiedUnder (negated : ℕ → Bool) (log : Logged) (id : Id) : Type 0 where
  pub clause : List ℕ
  pub names : named log.axioms (live_lines log.lines) id ≡ Some clause
  pub false_there : IsFalsified negated clause

-- none of these clauses is false where these literals are true
abbrev pub AreNotFalsifiedUnder : (ℕ → Bool) → List (List ℕ) → Type 0
AreNotFalsifiedUnder negated listed = (clause : List ℕ) → Contains listed clause
    → IsFalsified negated clause → ⊥

-- no axiom or live line is false where these literals are true
abbrev pub NoneIsFalsifiedUnder : (ℕ → Bool) → Logged → Type 0
NoneIsFalsifiedUnder negated log = (id : Id) (clause : List ℕ)
    → named log.axioms (live_lines log.lines) id ≡ Some clause → IsFalsified negated clause → ⊥
