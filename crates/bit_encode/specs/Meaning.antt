-- What words stand for in an assignment of truth values.
use Rattle.std.specs.Prelude.{◌≡◌, ℕ, ◌≤◌, Bool, List, length, ℤ, pos, ◌+ℤ◌, ◌-ℤ◌, ◌*ℤ◌, ◌≤ℤ◌, ◌<ℤ◌, int_rem}
use Rattle.sat_lits.specs.Literals.{literal_true}
use Rattle.gate_build.specs.Circuits.{Circuit}
use Rattle.gate_build.specs.Meaning.{Holds}
use Rattle.bit_encode.specs.Numbers.{bit, bits_of, truths_of, FitsBits}

-- the literals of the word are the lowest bits of the number
pub record HasLowBits (values : ℕ → Bool) (word : List ℕ) (z : ℤ) : Type 0 where
  pub bits : truths_of values word ≡ bits_of (length word) z

-- the literals of the word are the bits of the number, its sign among them
pub record Spells (values : ℕ → Bool) (word : List ℕ) (z : ℤ) : Type 0 where
  pub some : 1 ≤ length word
  pub bits : truths_of values word ≡ bits_of (length word) z
  pub fits : FitsBits (length word) z

-- ---- What operations compute, in each assignment that satisfies the clauses of the circuit

abbrev pub difference : ℤ → ℤ → ℤ
difference x y = x -ℤ y

abbrev pub product : ℤ → ℤ → ℤ
product x y = x *ℤ y

-- from the lowest bits of two numbers, the word has those of what the operation gives
pub record Calculates (circuit : Circuit) (operation : ℤ → ℤ → ℤ) (a b word : List ℕ) : Type 0 where
  pub calculates :
      (values : ℕ → Bool) (x y : ℤ) → Holds values circuit
      → HasLowBits values a x → HasLowBits values b y → HasLowBits values word (operation x y)

-- from the lowest bits of two numbers, the word has those of their sum and a carry
pub record AddsUp (circuit : Circuit) (a b : List ℕ) (carry : ℕ) (word : List ℕ) : Type 0 where
  pub adds :
      (values : ℕ → Bool) (x y : ℤ) → Holds values circuit
      → HasLowBits values a x → HasLowBits values b y
      → HasLowBits values word (x +ℤ y +ℤ bit (literal_true values carry))

-- the literal is true exactly where the numbers of two words pass the test
pub record Tests (circuit : Circuit) (test : ℤ → ℤ → Bool) (a b : List ℕ) (l : ℕ) : Type 0 where
  pub tests :
      (values : ℕ → Bool) (x y : ℤ) → Holds values circuit
      → Spells values a x → Spells values b y → literal_true values l ≡ test x y

-- the word is what is left of the first number, not below 0, after division by the second, above 0
pub record LeavesRemainder (circuit : Circuit) (a b word : List ℕ) : Type 0 where
  pub leaves :
      (values : ℕ → Bool) (x y : ℤ) → Holds values circuit
      → Spells values a x → Spells values b y → pos 0 ≤ℤ x → pos 0 <ℤ y → Spells values word (int_rem x y)
