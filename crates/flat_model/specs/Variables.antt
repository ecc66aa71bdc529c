-- The numbers of variables. A variable stands at a position: the index of its number in the list of its numbers.
use Rattle.std.specs.Prelude.{◌≡◌, ◌≢◌, ℕ, zero, suc, ◌<◌, List, [], ◌∷◌, length, ℤ, pos, ◌+ℤ◌, Option, Some, None, slice_get, slice_index, slice_index_or, All, AllPairs}
use Rattle.flat_model.specs.declared.variables.Values.{Values}
use Rattle.flat_model.specs.declared.variables.Values.TheVariants.{Boolean, Range, Table}
use Rattle.flat_model.specs.declared.variables.FlatVar.{FlatVar}
use Rattle.flat_model.specs.Numbers.{IsWithinLimit}

-- so many numbers in a row, from the lowest up
abbrev pub row : ℤ → ℕ → List ℤ
row low zero = []
row low (suc n) = low ∷ row (low +ℤ pos 1) n

-- the numbers in order of their positions, where there are so many
abbrev pub listed : Values → ℕ → List ℤ
listed Boolean count = pos 0 ∷ pos 1 ∷ []
listed (Range low) count = row low count
listed (Table numbers) count = numbers

-- the numbers of a variable in order of their positions
abbrev pub numbers_of : FlatVar → List ℤ
numbers_of var = listed var.values var.count

-- The variable has at least one number and as many as its count says, all different and within the limit.
pub record IsSoundVariable (var : FlatVar) : Type 0 where
  pub some : 0 < var.count
  pub counted : length (numbers_of var) ≡ var.count
  pub distinct : AllPairs (λ m n. m ≢ n) (numbers_of var)
  pub limited : All IsWithinLimit (numbers_of var)

-- the number at a position
abbrev pub number_at : Values → ℕ → ℤ
number_at Boolean position = pos position
number_at (Range low) position = low +ℤ pos position
number_at (Table numbers) position = slice_index_or numbers position (pos 0)

-- the number of a variable that may be missing
abbrev pub number_or_none : Option FlatVar → ℕ → ℤ
number_or_none None position = pos 0
number_or_none (Some var) position = number_at var.values position

-- the number of variable v where the variables stand at these positions
abbrev pub number_in : List FlatVar → List ℕ → ℕ → ℤ
number_in vars positions v = number_or_none (slice_get vars v) (slice_index positions v)

-- each variable stands at one of its positions
pub record ArePositions (vars : List FlatVar) (positions : List ℕ) : Type 0 where
  pub one_each : length positions ≡ length vars
  pub within : (v : ℕ) (var : FlatVar) → slice_get vars v ≡ Some var → slice_index positions v < var.count
