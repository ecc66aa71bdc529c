use Rattle.std.specs.Prelude.{◌≡◌, ℕ, ◌<◌, List, [], ◌∷◌, ◌++◌, Some, length, slice_index_or}
use Rattle.sat_lits.specs.Steps.{IsFalsified, Forces}
use Rattle.sat_arena.specs.declared.trail.Assigned.{Assigned}
use Rattle.sat_arena.specs.Trails.{true_in}

-- unit propagation led from the first entries to these: each further one was forced at the level by the
-- clause that it names as its reason
pub data Deduces (clauses : List (List ℕ)) (level : ℕ) (before : List Assigned) : List Assigned → Type 0 where
  nothing : Deduces clauses level before before
  one_more : (entries : List Assigned) (entry : Assigned) (position : ℕ)
      → Deduces clauses level before entries
      → entry.level ≡ level → entry.reason ≡ Some position → position < length clauses
      → Forces (true_in entries) (slice_index_or clauses position []) entry.lit
      → Deduces clauses level before (entries ++ entry ∷ [])

-- the clause at the position is there, and all its literals are false
abbrev pub IsConflict : List (List ℕ) → List Assigned → ℕ → Type 0
IsConflict clauses entries position = (position < length clauses)
    × IsFalsified (true_in entries) (slice_index_or clauses position [])
