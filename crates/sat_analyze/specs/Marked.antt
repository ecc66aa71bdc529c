-- Marks at the positions of a trail.
use Rattle.std.specs.Prelude.{◌≡◌, ℕ, ◌<◌, ◌≤◌, Bool, true, false, List, length, map, slice_index, slice_index_or, All, Contains, ◌⊎◌}
use Rattle.sat_arena.specs.declared.trail.Assigned.{Assigned}
use Rattle.sat_lits.specs.Literals.{variable_of}

-- the position is marked
abbrev pub IsMarked : List Bool → ℕ → Type 0
IsMarked seen position = slice_index_or seen position false ≡ true

-- the table, by variables, gives each literal a position below this count
abbrev pub ArePositioned : List ℕ → ℕ → List ℕ → Type 0
ArePositioned positions count lits = All
    (λ l. (variable_of l < length positions) × (slice_index positions (variable_of l) < count)) lits

-- the position is that of one of the literals
pub record IsPositionOf (positions : List ℕ) (lits : List ℕ) (position : ℕ) : Type 0 where
  pub literal : ℕ
  pub holds : Contains lits literal
  pub there : slice_index positions (variable_of literal) ≡ position

-- the literal's variable stands at a marked position, or at one of level 0
abbrev pub IsCovered : List Assigned → List ℕ → List Bool → ℕ → Type 0
IsCovered entries positions seen literal =
    let position = slice_index positions (variable_of literal) in IsMarked seen position ⊎ (slice_index (map (λ e. e.level) entries) position ≡ 0)

-- the lowest marked position from `start` on, and no position where there is none
pub record IsLowest (seen : List Bool) (start lowest : ℕ) : Type 0 where
  pub least : (position : ℕ) → start ≤ position → IsMarked seen position → lowest ≤ position
  pub within : lowest ≤ length seen
  pub reached : lowest < length seen → IsMarked seen lowest × (start ≤ lowest)
