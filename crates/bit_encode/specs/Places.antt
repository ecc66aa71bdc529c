-- Words of variables, from the bits that number their places.
use Rattle.std.specs.Prelude.{ℕ, zero, suc, ◌+◌, ◌-◌, ◌/◌, ◌%◌, ◌==◌, if◌then◌else◌, List, [], ◌∷◌, ◌++◌, length, ℤ, pos}
use Rattle.sat_lits.specs.Literals.{negation}
use Rattle.gate_build.specs.Circuits.{Circuit, falsity}
use Rattle.gate_build.specs.Numbering.{all_of}
use Rattle.bit_encode.specs.declared.pairwise.PairGate.TheVariants.{Choose}
use Rattle.bit_encode.specs.Words.{resized, constant_word}
use Rattle.bit_encode.specs.Arithmetic.{pairwise_of, add_of}

-- the place as a number: its bits, below a sign that is false
abbrev pub place_word : List ℕ → List ℕ
place_word bits = bits ++ falsity ∷ []

-- the lowest bit where the place has it, and otherwise its negation
abbrev pub wanted : ℕ → ℕ → ℕ
wanted place l = if place % 2 == 1 then l else negation l

-- the literals that are all true at a place
abbrev pub at_place : ℕ → List ℕ → List ℕ
at_place place [] = []
at_place place (l ∷ bits) = wanted place l ∷ at_place (place / 2) bits

-- whether the bits are those of a place
unfoldable pub place_test_of : ℕ → List ℕ → Circuit → ℕ × Circuit
place_test_of place bits circuit = all_of (at_place place bits) circuit

-- the tests of so many places, from one place up
unfoldable pub place_tests_of : ℕ → ℕ → List ℕ → Circuit → List ℕ × Circuit
place_tests_of zero place bits circuit = ([], circuit)
place_tests_of (suc n) place bits circuit =
    let test = place_test_of place bits circuit in
    let rest = place_tests_of n (place + 1) bits test.1 in
    (test.0 ∷ rest.0, rest.1)

-- The number of the first test that is true, and the last number where none is. The last choice is made first.
unfoldable pub choose_of : ℕ → List ℕ → List ℤ → Circuit → List ℕ × Circuit
choose_of w tests [] circuit = (constant_word w (pos 0), circuit)
choose_of w [] (z ∷ numbers) circuit = (constant_word w z, circuit)
choose_of w (t ∷ tests) (z ∷ numbers) circuit =
    let rest = choose_of w tests numbers circuit in
    pairwise_of (Choose t) (constant_word w z) rest.0 rest.1

-- the number at a place, counted from the lowest number
unfoldable pub range_of : ℕ → ℤ → List ℕ → Circuit → List ℕ × Circuit
range_of w low bits circuit = add_of (resized w (place_word bits)) (constant_word w low) falsity circuit

-- the number at a place of a table: all tests are made first
unfoldable pub table_of : ℕ → List ℤ → List ℕ → Circuit → List ℕ × Circuit
table_of w numbers bits circuit =
    let tests = place_tests_of (length numbers - 1) 0 bits circuit in
    choose_of w tests.0 numbers tests.1
