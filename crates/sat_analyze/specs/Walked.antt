-- A walk back over a trail, which leaves a clause that is derived.
use Rattle.std.specs.Prelude.{◌≡◌, ◌≢◌, ℕ, ◌<◌, ◌≤◌, ◌++◌, ◌∷◌, [], ◌↔◌, Bool, true, false, List, Option, None, length, map, max, take, reverse, slice_index, slice_index_or, Contains, ◌⊎◌}
use Rattle.std.specs.List.{AllPairs}
use Rattle.fsmv_base.specs.declared.citation.Id.{Id}
use Rattle.sat_lits.specs.Literals.{negation, variable_of}
use Rattle.sat_lits.specs.Steps.{named, Refutes}
use Rattle.sat_arena.specs.declared.trail.Assigned.{Assigned}
use Rattle.sat_arena.specs.Stored.{Stored}
use Rattle.sat_arena.specs.ArenaState.{clauses_of}
use Rattle.sat_arena.specs.Trails.{true_in}
use Rattle.sat_arena.specs.Justified.{current_level, IsEntryAt}
use Rattle.sat_analyze.specs.declared.walk.Walk.{Walk}
use Rattle.sat_analyze.specs.declared.walk.Keeping.{Keeping}
use Rattle.sat_analyze.specs.declared.walk.Keeping.TheVariants.{Decisions}
use Rattle.sat_analyze.specs.declared.marks.Marks.{Marks}
use Rattle.sat_analyze.specs.Derived.{AreNamed, HasVariable}
use Rattle.sat_analyze.specs.Marked.{IsMarked, IsLowest, IsPositionOf}

-- the entries of the current_level level stand from the position on, where that level is above 0, and otherwise none do
pub record IsStart (entries : List Assigned) (start : ℕ) : Type 0 where
  pub within : start ≤ length entries
  pub after : (i : ℕ) (entry : Assigned) → IsEntryAt entries i entry → start ≤ i
      → (entry.level ≡ current_level entries) × (0 < current_level entries)
  pub before : (i : ℕ) (entry : Assigned) → IsEntryAt entries i entry → 0 < current_level entries
      → entry.level ≡ current_level entries → start ≤ i

-- what is known covers the marked entries before a position and the kept literals, and lies within the entries before it and the kept literals
pub record Fits (entries : List Assigned) (position : ℕ) (seen : List Bool) (kept : List ℕ) (known : ℕ → Bool) : Type 0 where
  pub marked : (i : ℕ) (entry : Assigned) → i < position → IsEntryAt entries i entry
      → IsMarked seen i → known entry.lit ≡ true
  pub kept_known : (m : ℕ) → Contains kept m → known m ≡ true
  pub within : (m : ℕ) → known m ≡ true → (true_in (take position entries) m ≡ true)
      ⊎ Contains kept m

-- the hints, which were found from the last to the first, refute whatever fits
pub record RefutesFrom (stored : List Stored) (entries : List Assigned) (position : ℕ) (seen : List Bool) (kept : List ℕ) (hints : List Id) : Type 0 where
  pub refutes : (axioms : List (List ℕ)) (lines : List (Option (List ℕ))) (known : ℕ → Bool)
      → AreNamed axioms lines stored → Fits entries position seen kept known
      → Refutes (named axioms lines) known (reverse hints)

-- no kept literal was true or false before the position
abbrev pub IsLate : List Assigned → ℕ → List ℕ → Type 0
IsLate entries position kept = (m : ℕ) → Contains kept m
    → (true_in (take position entries) m ≡ false)
    × (true_in (take position entries) (negation m) ≡ false)

-- the marks are those of a trail's positions
pub record AreMarks (entries : List Assigned) (marks : Marks) : Type 0 where
  pub sized : length marks.seen.items ≡ length entries
  pub lowest : IsLowest marks.seen.items marks.start marks.lowest

-- no two literals are of one variable
abbrev pub HaveOwnVariables : List ℕ → Type 0
HaveOwnVariables lits = AllPairs (λ v w. v ≢ w) (map variable_of lits)

-- the walk over the trail has not begun
pub record IsFresh (entries : List Assigned) (walk : Walk) : Type 0 where
  pub marks : AreMarks entries walk.marks
  pub unmarked : (i : ℕ) → IsMarked walk.marks.seen.items i → ⊥
  pub start : IsStart entries walk.marks.start
  pub kept : walk.kept.items ≡ []
  pub hints : walk.hints.items ≡ []
  pub level : walk.level ≡ 0

-- the walk has come down to the position: below it, the marked entries are still to be looked at
pub record IsWalk (stored : List Stored) (entries : List Assigned) (position : ℕ) (walk : Walk) : Type 0 where
  pub within : position ≤ length entries
  pub marks : AreMarks entries walk.marks
  pub listed : (i : ℕ) (entry : Assigned) → IsEntryAt entries i entry
      → IsMarked walk.marks.seen.items i → HasVariable (clauses_of stored) (variable_of entry.lit)
  pub late : IsLate entries position walk.kept.items
  pub apart : HaveOwnVariables walk.kept.items
  pub refutes : RefutesFrom stored entries position walk.marks.seen.items walk.kept.items
      walk.hints.items

-- the walk meets the clause at the position: its literals' variables, which stand where the table says, are marked, and its
-- id becomes a hint
pub record Meets (stored : List Stored) (positions : List ℕ) (position : ℕ) (before after : Walk) : Type 0 where
  pub met : Stored
  pub within : position < length stored
  pub there : slice_index_or stored position met ≡ met
  pub exact : (i : ℕ) → IsMarked after.marks.seen.items i
      ↔ (IsMarked before.marks.seen.items i
      ⊎ IsPositionOf positions met.clause i)
  pub sized : length after.marks.seen.items ≡ length before.marks.seen.items
  pub lowest : IsLowest after.marks.seen.items after.marks.start after.marks.lowest
  pub start : after.marks.start ≡ before.marks.start
  pub hints : after.hints.items ≡ before.hints.items ++ met.id ∷ []
  pub kept : after.kept ≡ before.kept
  pub level : after.level ≡ before.level

-- the literal is kept
pub record KeepsLit (lit : ℕ) (before after : Walk) : Type 0 where
  pub marks : after.marks ≡ before.marks
  pub hints : after.hints ≡ before.hints
  pub kept : after.kept.items ≡ before.kept.items ++ lit ∷ []
  pub level : after.level ≡ before.level

-- the entry's literal is kept, and its level counts
pub record Keeps (entry : Assigned) (before after : Walk) : Type 0 where
  pub marks : after.marks ≡ before.marks
  pub hints : after.hints ≡ before.hints
  pub kept : after.kept.items ≡ before.kept.items ++ entry.lit ∷ []
  pub level : after.level ≡ max before.level entry.level

-- the entry at the position was resolved, or is not marked
pub record Resolves (stored : List Stored) (entries : List Assigned) (position : ℕ) (before after : Walk) : Type 0 where
  pub walk : IsWalk stored entries position after
  pub kept : after.kept ≡ before.kept
  pub level : after.level ≡ before.level
  pub start : after.marks.start ≡ before.marks.start
  pub lower : before.marks.lowest < length entries → after.marks.lowest ≤ before.marks.lowest

-- the only kept literal is that of the lowest marked entry of the current_level level; at level 0 none is
pub record KeepsPoint (stored : List Stored) (entries : List Assigned) (before after : Walk) : Type 0 where
  pub walk : IsWalk stored entries after.marks.lowest after
  pub level : after.level ≡ before.level
  pub start : after.marks.start ≡ before.marks.start
  pub point : (after.kept.items ≡ []) × (after.marks.lowest ≡ before.marks.lowest)
      × (before.marks.lowest ≡ length entries)
      ⊎ ((entry : Assigned) × IsEntryAt entries after.marks.lowest entry
      × (after.kept.items ≡ entry.lit ∷ []) × (before.marks.lowest < length entries))

-- a literal that was kept: that of a marked entry before a position, of a level from 1 to this one, and of a decision where these alone are to be kept
pub record IsKept (entries : List Assigned) (keeping : Keeping) (from : ℕ) (seen : List Bool) (level m : ℕ) : Type 0 where
  pub position : ℕ
  pub entry : Assigned
  pub stands : IsEntryAt entries position entry
  pub before : position < from
  pub is_marked : IsMarked seen position
  pub of_literal : entry.lit ≡ m
  pub above : 0 < entry.level
  pub low : entry.level ≤ level
  pub decided : keeping ≡ Decisions → entry.reason ≡ None

-- a literal of an entry before a position, of this level
pub record IsReached (entries : List Assigned) (from : ℕ) (level m : ℕ) : Type 0 where
  pub position : ℕ
  pub entry : Assigned
  pub stands : IsEntryAt entries position entry
  pub before : position < from
  pub of_literal : entry.lit ≡ m
  pub at_level : entry.level ≡ level

-- the kept literals are those of before and ones of entries before a position, and the level is the greatest of these
pub record KeepsMore (entries : List Assigned) (keeping : Keeping) (from : ℕ) (kept : List ℕ) (walk : Walk) : Type 0 where
  pub stay : (m : ℕ) → Contains kept m → Contains walk.kept.items m
  pub added : (m : ℕ) → Contains walk.kept.items m → Contains kept m
      ⊎ IsKept entries keeping from walk.marks.seen.items walk.level m
  pub reached : 0 < walk.level → (m : ℕ) × Contains walk.kept.items m
      × IsReached entries from walk.level m

-- the marked entry at the position was resolved or kept
pub record Steps (stored : List Stored) (entries : List Assigned) (position : ℕ) (keeping : Keeping) (before after : Walk) : Type 0 where
  pub walk : IsWalk stored entries position after
  pub more : (from : ℕ) (kept : List ℕ) → position < from
      → KeepsMore entries keeping from kept before → KeepsMore entries keeping from kept after
  pub apart : (from : ℕ) → position < from → from ≤ before.marks.lowest → from ≤ after.marks.lowest
  pub start : after.marks.start ≡ before.marks.start
