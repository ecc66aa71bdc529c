-- Sets of numbers.
use Rattle.std.specs.Prelude.{Bool, false, ◌||◌, ℤ}
use Rattle.std.specs.Ordering.{int_eq}
use Rattle.std.specs.HashSet.{HashSet, contains_by}
use Rattle.std.specs.declared.hash.FoldHasher.{FoldHasher}
use Rattle.std.specs.declared.hash.BuildHasherDefault.{BuildHasherDefault}

-- a set of numbers
abbrev pub NumberSet : Type 0
NumberSet = HashSet ℤ (BuildHasherDefault FoldHasher)

-- whether the set has the number
abbrev pub has_number : NumberSet → ℤ → Bool
has_number numbers n = contains_by (int_eq n) numbers

-- the empty set of numbers
abbrev pub no_number : ℤ → Bool
no_number n = false

-- a set with one more number
abbrev pub and_number : (ℤ → Bool) → ℤ → ℤ → Bool
and_number seen n other = seen other || int_eq other n
