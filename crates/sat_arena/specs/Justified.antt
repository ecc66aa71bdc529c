-- Why each entry of a trail is there.
use Rattle.std.specs.Prelude.{◌≡◌, ℕ, ◌-◌, ◌<◌, ◌↔◌, Bool, true, List, [], Some, None, length, map, take, slice_index, slice_index_or, All, Contains}
use Rattle.sat_lits.specs.Literals.{negation, variable_of}
use Rattle.sat_arena.specs.declared.trail.Assigned.{Assigned}
use Rattle.sat_arena.specs.Trails.{true_in}

-- the level of the last entry, and 0 where there is none
abbrev pub current_level : List Assigned → ℕ
current_level entries = slice_index (map (λ e. e.level) entries) (length entries - 1)

-- the entry stands at the position, counted from 0
abbrev pub IsEntryAt : List Assigned → ℕ → Assigned → Type 0
IsEntryAt entries position entry = (position < length entries)
    × (slice_index_or entries position entry ≡ entry)

-- the table tells, by its variable, where each entry stands
abbrev pub HasPositions : List Assigned → List ℕ → Type 0
HasPositions entries positions = (i : ℕ) (entry : Assigned) → IsEntryAt entries i entry
    → (variable_of entry.lit < length positions)
    × (slice_index positions (variable_of entry.lit) ≡ i)

-- the literal became true at the level
pub record IsTrueAt (entries : List Assigned) (literal level : ℕ) : Type 0 where
  pub entry : Assigned
  pub stands : Contains entries entry
  pub of_literal : entry.lit ≡ literal
  pub at_level : entry.level ≡ level

-- the literal is true because it was decided
pub record IsDecision (entries : List Assigned) (literal : ℕ) : Type 0 where
  pub entry : Assigned
  pub stands : Contains entries entry
  pub of_literal : entry.lit ≡ literal
  pub decided : entry.reason ≡ None

-- the clause holds the literal, and all its other literals are false
pub record IsReason (known : ℕ → Bool) (clause : List ℕ) (literal : ℕ) : Type 0 where
  pub holds : Contains clause literal
  pub others : All (λ l. (l ≡ literal → ⊥) → known (negation l) ≡ true) clause

-- the entry is the first of its level, which is above 0
abbrev pub BeginsLevel : List Assigned → Assigned → Type 0
BeginsLevel before entry = (0 < entry.level) × All (λ e. e.level < entry.level) before

-- each entry is a decision, which begins a level above 0, or has a clause for its reason
pub record IsJustified (clauses : List (List ℕ)) (entries : List Assigned) : Type 0 where
  -- a reason is the position of a clause that holds the literal and otherwise only literals that were false before
  pub reasons : (i position : ℕ) (entry : Assigned) → IsEntryAt entries i entry → entry.reason
      ≡ Some position → (position < length clauses)
      × IsReason (true_in (take i entries)) (slice_index_or clauses position []) entry.lit
  -- an entry has no reason exactly where it is the first of a level above 0
  pub decisions : (i : ℕ) (entry : Assigned) → IsEntryAt entries i entry → (entry.reason ≡ None)
      ↔ BeginsLevel (take i entries) entry
