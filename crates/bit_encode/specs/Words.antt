-- Words: lists of literals, the lowest bit first. The highest one is the sign.
use Rattle.std.specs.Prelude.{ℕ, ◌-◌, List, [], ◌∷◌, ◌++◌, ℤ, length, take, map, replicate}
use Rattle.sat_lits.specs.Literals.{negation}
use Rattle.gate_build.specs.Circuits.{falsity, constant}
use Rattle.bit_encode.specs.Numbers.{bits_of}

-- the highest bit, or the first argument where there is none
abbrev pub sign_of : {A : Type 0} → A → List A → A
sign_of d [] = d
sign_of d (x ∷ []) = x
sign_of d (x ∷ y ∷ more) = sign_of d (y ∷ more)

-- a word at another width: cut, or widened by its sign
abbrev pub resized : ℕ → List ℕ → List ℕ
resized w word = take w word ++ replicate (w - length word) (sign_of falsity word)

-- each bit negated
abbrev pub negated : List ℕ → List ℕ
negated word = map negation word

-- twice the number and a bit, at the same width
abbrev pub shifted : ℕ → List ℕ → List ℕ
shifted low word = take (length word) (low ∷ word)

-- so many bits of a number
abbrev pub constant_word : ℕ → ℤ → List ℕ
constant_word w z = map constant (bits_of w z)
