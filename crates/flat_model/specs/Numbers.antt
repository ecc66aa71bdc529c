-- Truth values as numbers, and the limit of magnitude.
use Rattle.std.specs.Prelude.{Bool, true, false, ℤ, pos, neg_ℤ, ◌≤ℤ◌}
use Rattle.std.specs.Ordering.{int_eq}

-- the truth value of a number: 1 is true
abbrev pub truth_of : ℤ → Bool
truth_of z = int_eq z (pos 1)

-- the number of a truth value
abbrev pub number_of : Bool → ℤ
number_of true = pos 1
number_of false = pos 0

-- whether just one of two is true
abbrev pub either : Bool → Bool → Bool
either true false = true
either false true = true
either true true = false
either false false = false

-- the greatest magnitude of a number
abbrev pub limit : ℤ
limit = pos 2147483647

-- the number is within the limit of magnitude
abbrev pub IsWithinLimit : ℤ → Type 0
IsWithinLimit z = (neg_ℤ limit ≤ℤ z) × (z ≤ℤ limit)
