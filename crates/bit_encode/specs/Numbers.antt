-- Integers as bits in two's complement, the lowest bit first.
use Rattle.std.specs.Prelude.{ℕ, zero, suc, ◌-◌, ◌/◌, ◌%◌, ◌<◌, ◌^◌, ◌==◌, Bool, true, false, if◌then◌else◌, List, [], ◌∷◌, ℤ, pos, negsuc, ◌+ℤ◌, map}
use Rattle.sat_lits.specs.Literals.{literal_true}

-- whether a number is odd
abbrev pub odd : ℤ → Bool
odd (pos n) = n % 2 == 1
odd (negsuc n) = n % 2 == 0

-- half of a number, rounded down
abbrev pub half : ℤ → ℤ
half (pos n) = pos (n / 2)
half (negsuc n) = negsuc (n / 2)

-- the number of a bit
abbrev pub bit : Bool → ℤ
bit true = pos 1
bit false = pos 0

-- so many of the lowest bits of a number
unfoldable pub bits_of : ℕ → ℤ → List Bool
bits_of zero z = []
bits_of (suc w) z = odd z ∷ bits_of w (half z)

-- the number that bits stand for: the highest one is its sign
abbrev pub signed : List Bool → ℤ
signed [] = pos 0
signed (b ∷ []) = if b then negsuc 0 else pos 0
signed (b ∷ c ∷ cs) = signed (c ∷ cs) +ℤ signed (c ∷ cs) +ℤ bit b

-- the number has so many bits, its sign among them
abbrev pub FitsBits : ℕ → ℤ → Type 0
FitsBits w (pos n) = n < 2 ^ (w - 1)
FitsBits w (negsuc n) = n < 2 ^ (w - 1)

-- the truth values of the literals of a word
abbrev pub truths_of : (ℕ → Bool) → List ℕ → List Bool
truths_of values word = map (literal_true values) word
