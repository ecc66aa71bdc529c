use Rattle.std.specs.Prelude.{ℕ, ◌<◌, List, [], ◌∷◌, length, IsSome, Contains}
use Rattle.sat_lits.specs.Table.{number_of}

-- beside others, the clause holds a literal whose unit clause has a number
abbrev pub HasUnitEntry : List (List ℕ × ℕ) → List ℕ → Type 0
HasUnitEntry table clause = (1 < length clause)
    × ((literal : ℕ) × Contains clause literal × IsSome (number_of table (literal ∷ [])))
