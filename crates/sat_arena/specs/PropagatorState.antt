-- What a propagator keeps.
use Rattle.std.specs.Prelude.{◌≡◌, ℕ, ◌<◌, ◌≤◌, List, [], Option, None, length, slice_index_or, IfSome}
use Rattle.sat_arena.specs.declared.trail.Assigned.{Assigned}
use Rattle.sat_arena.specs.Stored.{Stored}
use Rattle.sat_arena.specs.ArenaState.{clauses_of, AreGrown}
use Rattle.sat_arena.specs.Trails.{true_in, up_to}
use Rattle.sat_arena.specs.Settled.{HasTrue}
use Rattle.sat_arena.specs.Justified.{current_level, IsEntryAt}
use Rattle.sat_arena.specs.Deduced.{IsConflict}
use Rattle.sat_arena.specs.Watches.{KeepsWatches}

-- the clauses, the literals that are true, the greatest variable, and how many entries have left the queue
pub record PropagatorState : Type 0 where
  pub stored : List Stored
  pub entries : List Assigned
  pub vars : ℕ
  pub head : ℕ

-- each clause of fewer than two literals has one that is true at level 0
abbrev pub AreShortTrue : List Assigned → List (List ℕ) → Type 0
AreShortTrue entries clauses = (i : ℕ) → i < length clauses → length (slice_index_or clauses i []) < 2 → HasTrue (true_in (up_to 0 entries)) (slice_index_or clauses i [])

-- the entries from the position on are of the current level
abbrev pub AreCurrentFrom : List Assigned → ℕ → Type 0
AreCurrentFrom entries head = (i : ℕ) (entry : Assigned) → IsEntryAt entries i entry → head ≤ i → entry.level ≡ current_level entries

-- Until a clause is refuted, which then is false at level 0, watches are kept and clauses of one literal are true. The
-- queue is of the current level.
pub record IsPropagator (stored : List Stored) (watched : List ℕ) (arena_vars : ℕ) (entries : List Assigned) (vars head : ℕ) (refuted : Option ℕ) : Type 0 where
  pub room : vars ≤ arena_vars
  pub grown : AreGrown vars (clauses_of stored)
  pub within : head ≤ length entries
  pub current : AreCurrentFrom entries head
  pub keeps : refuted ≡ None → KeepsWatches entries head (clauses_of stored) watched
  pub short : refuted ≡ None → AreShortTrue entries (clauses_of stored)
  pub refuted_at : IfSome refuted (IsConflict (clauses_of stored) (up_to 0 entries))
