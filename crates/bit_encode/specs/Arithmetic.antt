-- The word that each operation answers, and the circuit after it.
use Rattle.std.specs.Prelude.{ℕ, suc, Bool, true, false, List, [], ◌∷◌, length, pos, replicate}
use Rattle.sat_lits.specs.Literals.{negation}
use Rattle.gate_build.specs.Circuits.{Circuit, truth, falsity}
use Rattle.gate_build.specs.Numbering.{and_of, or_of, xor_of, mux_of, all_of}
use Rattle.bit_encode.specs.declared.pairwise.PairGate.{PairGate}
use Rattle.bit_encode.specs.declared.pairwise.PairGate.TheVariants.{And, Same, Choose}
use Rattle.bit_encode.specs.Widths.{greater}
use Rattle.bit_encode.specs.Words.{sign_of, resized, negated, shifted, constant_word}

-- ---- Bit by bit

-- the negated literal of a run
abbrev pub negation_of : ℕ × Circuit → ℕ × Circuit
negation_of run = (negation run.0, run.1)

-- what is made of two bits: their conjunction, whether they are the same, or the first where a literal is true
abbrev pub pair_of : PairGate → ℕ → ℕ → Circuit → ℕ × Circuit
pair_of And a b circuit = and_of a b circuit
pair_of Same a b circuit = negation_of (xor_of a b circuit)
pair_of (Choose c) a b circuit = mux_of c a b circuit

-- one literal for each two bits of the same place, from the lowest
unfoldable pub pairwise_of : PairGate → List ℕ → List ℕ → Circuit → List ℕ × Circuit
pairwise_of gate [] ys circuit = ([], circuit)
pairwise_of gate (a ∷ more) [] circuit = ([], circuit)
pairwise_of gate (a ∷ more) (b ∷ ys) circuit =
    let first = pair_of gate a b circuit in
    let rest = pairwise_of gate more ys first.1 in
    (first.0 ∷ rest.0, rest.1)

-- ---- Sums

-- The next carry, where t is the xor of a and b. The highest bit makes none.
unfoldable pub carry_of : Bool → ℕ → ℕ → ℕ → ℕ → Circuit → ℕ × Circuit
carry_of true a b c t circuit = (falsity, circuit)
carry_of false a b c t circuit =
    let both = and_of a b circuit in
    let one = and_of c t both.1 in
    or_of both.0 one.0 one.1

abbrev pub is_empty : List ℕ → Bool
is_empty [] = true
is_empty (x ∷ more) = false

-- the sum of two words of one width and a carry, from the lowest bit
unfoldable pub add_of : List ℕ → List ℕ → ℕ → Circuit → List ℕ × Circuit
add_of [] ys c circuit = ([], circuit)
add_of (a ∷ more) [] c circuit = ([], circuit)
add_of (a ∷ more) (b ∷ ys) c circuit =
    let t = xor_of a b circuit in
    let sum = xor_of t.0 c t.1 in
    let next = carry_of (is_empty more) a b c t.0 sum.1 in
    let rest = add_of more ys next.0 next.1 in
    (sum.0 ∷ rest.0, rest.1)

-- the difference of two words of one width
unfoldable pub subtract_of : List ℕ → List ℕ → Circuit → List ℕ × Circuit
subtract_of xs ys circuit = add_of xs (negated ys) truth circuit

-- ---- Comparisons

-- whether the first number is less: the sign of the difference, one bit wider than both
unfoldable pub less_of : List ℕ → List ℕ → Circuit → ℕ × Circuit
less_of xs ys circuit =
    let w = suc (greater (length xs) (length ys)) in
    let difference = subtract_of (resized w xs) (resized w ys) circuit in
    (sign_of falsity difference.0, difference.1)

-- whether both numbers are equal, at the width of the wider one
unfoldable pub equal_of : List ℕ → List ℕ → Circuit → ℕ × Circuit
equal_of xs ys circuit =
    let w = greater (length xs) (length ys) in
    let same = pairwise_of Same (resized w xs) (resized w ys) circuit in
    all_of same.0 same.1

-- ---- Products

-- A sum and the products of a number by the bits of another, the lowest bit first. The number doubles from bit to bit.
unfoldable pub products_of : List ℕ → List ℕ → List ℕ → Circuit → List ℕ × Circuit
products_of sum ys [] circuit = (sum, circuit)
products_of sum ys (a ∷ more) circuit =
    let row = pairwise_of And (replicate (length ys) a) ys circuit in
    let next = add_of sum row.0 falsity row.1 in
    products_of next.0 (shifted falsity ys) more next.1

-- the product of two words of one width
unfoldable pub multiply_of : List ℕ → List ℕ → Circuit → List ℕ × Circuit
multiply_of xs ys circuit = products_of (constant_word (length ys) (pos 0)) ys xs circuit

-- ---- Remainders

-- One step of the division: the divisor is taken from a number where that does not go below 0.
unfoldable pub reduce_of : List ℕ → List ℕ → Circuit → List ℕ × Circuit
reduce_of xs ys circuit =
    let difference = subtract_of xs ys circuit in
    pairwise_of (Choose (sign_of falsity difference.0)) xs difference.0 difference.1

-- the division of the bits of a number, the highest first, by a word; the remainder has the divisor's width
unfoldable pub division_of : List ℕ → List ℕ → Circuit → List ℕ × Circuit
division_of [] ys circuit = (constant_word (length ys) (pos 0), circuit)
division_of (a ∷ more) ys circuit =
    let higher = division_of more ys circuit in
    reduce_of (shifted a higher.0) ys higher.1

-- the remainder of a division, one bit wider than both numbers
unfoldable pub remainder_of : List ℕ → List ℕ → Circuit → List ℕ × Circuit
remainder_of xs ys circuit = division_of xs (resized (suc (greater (length xs) (length ys))) ys) circuit
