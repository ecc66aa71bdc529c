-- What becomes of the entries of a trail as clauses are taken out and others move.
use Rattle.std.specs.Prelude.{◌≡◌, ℕ, ◌+◌, ◌<◌, ◌⊎◌, List, [], ◌∷◌, Option, Some, None, not, length, filter, slice_index_or, Contains}
use Rattle.sat_arena.specs.declared.trail.Assigned.{Assigned}
use Rattle.sat_arena.specs.ArenaState.{ArenaState, clauses_of, among, is_satisfied, IsUnitOf}
use Rattle.sat_arena.specs.PropagatorState.{PropagatorState}

-- the clause stands at this position now, or was taken out and the literal stands here as a unit clause
abbrev pub IsReasonNow : ArenaState → ℕ → ℕ → ℕ → Type 0
IsReasonNow arena literal reason position =
    (slice_index_or arena.moved reason None ≡ Some position)
    ⊎ ((slice_index_or arena.moved reason None ≡ None) × (position < length arena.stored)
    × IsUnitOf literal (slice_index_or (clauses_of arena.stored) position []))

-- a decision has no reason, and any other entry has its clause where it stands now
abbrev pub HasReasonNow : ArenaState → ℕ → Option ℕ → Option ℕ → Type 0
HasReasonNow arena literal None after = after ≡ None
HasReasonNow arena literal (Some reason) after = (position : ℕ) × (after ≡ Some position)
    × IsReasonNow arena literal reason position

-- the same literal at the same level, whose reason is where it stands now
pub record IsMovedEntry (arena : ArenaState) (before after : Assigned) : Type 0 where
  pub lit : after.lit ≡ before.lit
  pub level : after.level ≡ before.level
  pub reason : HasReasonNow arena before.lit before.reason after.reason

-- that was done at one entry, and the others are as they were
pub record MovesEntry (arena : ArenaState) (at : ℕ) (old new : List Assigned) : Type 0 where
  pub long : length new ≡ length old
  pub here : (d : Assigned) → IsMovedEntry arena (slice_index_or old at d) (slice_index_or new at d)
  pub others : (i : ℕ) (d : Assigned) → (i ≡ at → ⊥) → slice_index_or new i d
      ≡ slice_index_or old i d

-- that was done at each entry
pub record AreMovedEntries (arena : ArenaState) (old new : List Assigned) : Type 0 where
  pub long : length new ≡ length old
  pub entries : (i : ℕ) (d : Assigned) → i < length old
      → IsMovedEntry arena (slice_index_or old i d) (slice_index_or new i d)

-- where the reason of the entry was taken out, its literal is a unit clause
abbrev pub HasTarget : ArenaState → Assigned → Type 0
HasTarget arena entry = (position : ℕ) → entry.reason ≡ Some position
    → (position < length arena.moved)
    × (slice_index_or arena.moved position None ≡ None
    → Contains (clauses_of arena.stored) (entry.lit ∷ []))

abbrev pub HaveTargets : ArenaState → List Assigned → Type 0
HaveTargets arena entries = (i : ℕ) (d : Assigned) → i < length entries
    → HasTarget arena (slice_index_or entries i d)

-- an entry with the same clause for its reason, or with the unit clause of its literal
pub record KeepsReason (old new : List (List ℕ)) (before after : Assigned) : Type 0 where
  pub lit : after.lit ≡ before.lit
  pub level : after.level ≡ before.level
  pub decided : before.reason ≡ None → after.reason ≡ None
  pub reason : (position : ℕ) → before.reason ≡ Some position → (now : ℕ)
      × (after.reason ≡ Some now) × (now < length new)
      × ((slice_index_or new now [] ≡ slice_index_or old position [])
      ⊎ IsUnitOf before.lit (slice_index_or new now []))

-- the clauses of two or more literals of which one is a root literal were taken out, so many, and each entry kept its
-- literal, its level and a reason
pub record Reclaims (root : List ℕ) (old new : PropagatorState) (count : ℕ) : Type 0 where
  pub stored : new.stored ≡ filter (λ s. not (is_satisfied (among root) s)) old.stored
  pub counted : count + length new.stored ≡ length old.stored
  pub vars : new.vars ≡ old.vars
  pub head : new.head ≡ old.head
  pub long : length new.entries ≡ length old.entries
  pub entries : (i : ℕ) (d : Assigned) → i < length old.entries
      → KeepsReason (clauses_of old.stored) (clauses_of new.stored)
      (slice_index_or old.entries i d) (slice_index_or new.entries i d)
