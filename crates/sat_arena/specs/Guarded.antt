-- What a watched literal owes when it becomes false.
use Rattle.std.specs.Prelude.{◌≡◌, ℕ, ◌<◌, ◌≤◌, List, length, map, take, slice_index, All, Contains}
use Rattle.sat_lits.specs.Literals.{negation}
use Rattle.sat_arena.specs.declared.trail.Assigned.{Assigned}
use Rattle.sat_arena.specs.Trails.{true_in, up_to}
use Rattle.sat_arena.specs.Settled.{HasTrue}

-- where one of the first `head` entries made the watched literal false, a literal of the clause is true at no higher level
abbrev pub IsGuarded : List Assigned → ℕ → List ℕ → ℕ → Type 0
IsGuarded entries head clause watch = All (λ e. e.lit ≡ negation watch → HasTrue (true_in (up_to e.level entries)) clause) (take head entries)

-- two literals of the clause, which are guarded
pub record IsWatched (entries : List Assigned) (head : ℕ) (clause : List ℕ) (one two : ℕ) : Type 0 where
  pub holds_one : Contains clause one
  pub holds_two : Contains clause two
  pub differ : one ≡ two → ⊥
  pub guards_one : IsGuarded entries head clause one
  pub guards_two : IsGuarded entries head clause two

-- the level of the entry at the position
abbrev pub level_at : List Assigned → ℕ → ℕ
level_at entries position = slice_index (map (λ e. e.level) entries) position

-- the entry is there, and none is of a higher level
pub record IsLast (entries : List Assigned) (position : ℕ) : Type 0 where
  pub within : position < length entries
  pub highest : All (λ e. e.level ≤ level_at entries position) entries
