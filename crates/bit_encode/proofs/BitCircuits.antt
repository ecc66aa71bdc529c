-- The operations on words, over truth values: what the runs of gates compute.
use Rattle.std.proofs.Common.{ℕ, zero, suc, ◌&&◌, ◌||◌, Bool, true, false, not, if◌then◌else◌, List, [], ◌∷◌, ℤ, pos, negsuc, map}
use Rattle.gate_build.specs.Meaning.{exclusive}
use Rattle.bit_encode.specs.Numbers.{bits_of}
use Rattle.bit_encode.specs.Words.{sign_of}

abbrev pub is_negative : ℤ → Bool
is_negative (pos n) = false
is_negative (negsuc n) = true

-- one value for each two bits of the same place
abbrev pub paired : (Bool → Bool → Bool) → List Bool → List Bool → List Bool
paired f [] bs = []
paired f (a ∷ more) [] = []
paired f (a ∷ more) (b ∷ bs) = f a b ∷ paired f more bs

-- the carry of an adder
abbrev pub carried : Bool → Bool → Bool → Bool
carried a b c = (a && b) || (c && exclusive a b)

abbrev pub summed : List Bool → List Bool → Bool → List Bool
summed [] bs c = []
summed (a ∷ more) [] c = []
summed (a ∷ more) (b ∷ bs) c = exclusive (exclusive a b) c ∷ summed more bs (carried a b c)

-- bits at another width: cut, or widened by the sign
abbrev pub widened : {A : Type 0} → A → ℕ → List A → List A
widened d zero xs = []
widened d (suc n) [] = d ∷ widened d n []
widened d (suc n) (x ∷ []) = x ∷ widened d n (x ∷ [])
widened d (suc n) (x ∷ y ∷ ys) = x ∷ widened d n (y ∷ ys)

-- twice the number and a bit, at the same width
abbrev pub doubled_bits : {A : Type 0} → A → List A → List A
doubled_bits d [] = []
doubled_bits d (x ∷ xs) = d ∷ doubled_bits x xs

abbrev pub under : Bool → List Bool → List Bool
under b ys = map (λ y. b && y) ys

abbrev pub multiplied : List Bool → List Bool → List Bool → List Bool
multiplied sum ys [] = sum
multiplied sum ys (x ∷ xs) = multiplied (summed sum (under x ys) false) (doubled_bits false ys) xs

abbrev pub negated_bits : List Bool → List Bool
negated_bits bs = map not bs

abbrev pub less : List Bool → List Bool → List Bool
less xs ys = summed xs (negated_bits ys) true

abbrev pub reduced : List Bool → List Bool → List Bool
reduced r b = if sign_of false (less r b) then r else less r b

-- the remainder of a division, from the highest bit; the numbers have w bits
abbrev pub rest_of : ℕ → List Bool → List Bool → List Bool
rest_of w [] b = bits_of w (pos 0)
rest_of w (x ∷ xs) b = reduced (doubled_bits x (rest_of w xs b)) b
