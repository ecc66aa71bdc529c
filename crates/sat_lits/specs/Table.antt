use Rattle.std.specs.Prelude.{◌≡◌, ℕ, List, Option, Some, nat_eq}
use Rattle.std.specs.Cmp.Lexicographic.{pointwise}
use Rattle.std.specs.Map.{lookup}
use Rattle.sat_lits.specs.Steps.{numbered}

-- the number that the entries of a table give a clause
abbrev pub number_of : List (List ℕ × ℕ) → List ℕ → Option ℕ
number_of table clause = lookup (pointwise nat_eq clause) table

-- the table gives the clause this number, or none, and gives every other clause what it gave before
pub record Puts (old new : List (List ℕ × ℕ)) (clause : List ℕ) (number : Option ℕ) : Type 0 where
  pub changed : number_of new clause ≡ number
  pub others : (other : List ℕ) → (other ≡ clause → ⊥) → number_of new other ≡ number_of old other

-- the table gives each line that stands its number, and no other clause a number
pub record Indexes (table : List (List ℕ × ℕ)) (lines : List (Option (List ℕ))) : Type 0 where
  pub finds : (clause : List ℕ) (n : ℕ) → numbered lines n ≡ Some (Some clause)
      → number_of table clause ≡ Some n
  pub stands : (clause : List ℕ) (n : ℕ) → number_of table clause ≡ Some n → numbered lines n
      ≡ Some (Some clause)
