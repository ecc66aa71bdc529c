use Rattle.std.specs.Prelude.{◌≡◌, ◌≢◌, ℕ, ◌==◌, ◌≤◌, ◌<◌, ◌+◌, ◌*◌, Bool, false, List, Some, length, All, filter, nat_le, slice_index, slice_index_or}
use Rattle.std.specs.List.{list_any, AllPairs}
use Rattle.sat_lits.specs.Literals.{variable_of}
use Rattle.sat_arena.specs.declared.trail.Assigned.{Assigned}

-- the literals that the entries make true
abbrev pub true_in : List Assigned → (ℕ → Bool)
true_in entries = λ l. list_any (λ e. e.lit == l) entries

-- the entries of the levels up to this one
abbrev pub up_to : ℕ → List Assigned → List Assigned
up_to level entries = filter (λ e. nat_le e.level level) entries

-- the entry with the clause at this position for its reason
abbrev pub with_reason : Assigned → ℕ → Assigned
with_reason entry position = record entry { reason = Some position }

-- if an entry is of the literal's variable, it stands at this position
abbrev pub IsPositionOf : List Assigned → ℕ → ℕ → Type 0
IsPositionOf entries l position = (i : ℕ) (d : Assigned) → i < length entries
    → variable_of (slice_index_or entries i d).lit ≡ variable_of l → position ≡ i

-- a literal of one of the variables up to this one
abbrev pub IsGrown : ℕ → ℕ → Type 0
IsGrown vars l = (2 ≤ l) × (variable_of l ≤ vars)

-- no variable is assigned twice, each lies among those that may be assigned, and levels never fall
pub record IsOrderly (entries : List Assigned) (vars : ℕ) : Type 0 where
  pub apart : AllPairs (λ e f. variable_of e.lit ≢ variable_of f.lit) entries
  pub rising : AllPairs (λ e f. e.level ≤ f.level) entries
  pub within : All (λ e. IsGrown vars e.lit) entries

-- the literals of a set, which has a flag for each by its code
abbrev pub marked : List Bool → (ℕ → Bool)
marked literal_set = λ l. slice_index_or literal_set l false

-- what the fields of a trail keep: which literals are true, where their entries stand, and room for each variable
pub record KeepsTogether (entries : List Assigned) (truth : List Bool) (positions : List ℕ) (vars capacity : ℕ) : Type 0 where
  pub orderly : IsOrderly entries vars
  pub literal_set : (l : ℕ) → marked truth l ≡ true_in entries l
  pub positions_are : (i : ℕ) (d : Assigned) → i < length entries → slice_index positions (variable_of (slice_index_or entries i d).lit) ≡ i
  pub set_room : 0 < vars → 2 * vars + 2 ≤ length truth
  pub set_fits : length truth ≤ 2 * vars + 2
  pub positions_room : 0 < vars → vars + 1 ≤ length positions
  pub reserved : 0 < vars → vars + 1 ≤ capacity
