use Rattle.std.proofs.Common.{◌≡◌, ℕ, zero, suc, ◌+◌, ◌/◌, ◌%◌, ◌==◌, Bool, true, false, ◌∷◌, arith, refl, ap, ℤ, pos, negsuc, ◌+ℤ◌}
use Rattle.std.proofs.lemmas.Int.{ints}
use Rattle.std.proofs.lemmas.Bool.Decides.{nat_tests}
use Rattle.gate_build.specs.Meaning.{exclusive}
use Rattle.bit_encode.specs.Numbers.{odd, half, bit, bits_of}
use Rattle.bit_encode.proofs.BitCircuits.{carried, summed}

odd_pos : (n : ℕ) (b : Bool) (m : ℕ) → pos n ≡ pos m +ℤ pos m +ℤ bit b → (n % 2 == 1) ≡ b
odd_pos n true m h = let e : n % 2 ≡ 1 = omega (arith, ints) in grind (arith, nat_tests)
odd_pos n false m h = let e : n % 2 ≡ 0 = omega (arith, ints) in grind (arith, nat_tests)

odd_neg : (n : ℕ) (b : Bool) (m : ℕ) → negsuc n ≡ negsuc m +ℤ negsuc m +ℤ bit b → (n % 2 == 0) ≡ b
odd_neg n true m h = let e : n % 2 ≡ 0 = omega (arith, ints) in grind (arith, nat_tests)
odd_neg n false m h = let e : n % 2 ≡ 1 = omega (arith, ints) in grind (arith, nat_tests)

half_pos : (n : ℕ) (b : Bool) (m : ℕ) → pos n ≡ pos m +ℤ pos m +ℤ bit b → pos (n / 2) ≡ pos m
half_pos n true m h = omega (arith, ints)
half_pos n false m h = omega (arith, ints)

half_neg : (n : ℕ) (b : Bool) (m : ℕ) → negsuc n ≡ negsuc m +ℤ negsuc m +ℤ bit b → negsuc (n / 2) ≡ negsuc m
half_neg n true m h = omega (arith, ints)
half_neg n false m h = omega (arith, ints)

apart : {A : Type 0} (n m : ℕ) (b : Bool) → pos n ≡ negsuc m +ℤ negsuc m +ℤ bit b → A
apart n m true h = absurd (omega (arith, ints))
apart n m false h = absurd (omega (arith, ints))

apart-too : {A : Type 0} (n m : ℕ) (b : Bool) → negsuc n ≡ pos m +ℤ pos m +ℤ bit b → A
apart-too n m true h = absurd (omega (arith, ints))
apart-too n m false h = absurd (omega (arith, ints))

-- twice a number and a bit is its half and its parity
pub half_once : (z h : ℤ) (b : Bool) → z ≡ h +ℤ h +ℤ bit b → half z ≡ h
half_once (pos n) (pos m) b e = half_pos n b m e
half_once (pos n) (negsuc m) b e = apart n m b e
half_once (negsuc n) (pos m) b e = apart-too n m b e
half_once (negsuc n) (negsuc m) b e = half_neg n b m e

pub odd_once : (z h : ℤ) (b : Bool) → z ≡ h +ℤ h +ℤ bit b → odd z ≡ b
odd_once (pos n) (pos m) b e = odd_pos n b m e
odd_once (pos n) (negsuc m) b e = apart n m b e
odd_once (negsuc n) (pos m) b e = apart-too n m b e
odd_once (negsuc n) (negsuc m) b e = odd_neg n b m e

pub parity : (n : ℕ) → ((n % 2 == 1) ≡ true → n ≡ n / 2 + n / 2 + 1) × ((n % 2 == 1) ≡ false → n ≡ n / 2 + n / 2) × ((n % 2 == 0) ≡ true → n ≡ n / 2 + n / 2) × ((n % 2 == 0) ≡ false → n ≡ n / 2 + n / 2 + 1)
parity n = (
  (λ h. let e : n % 2 ≡ 1 = grind (arith, nat_tests) in omega arith),
  (λ h. let e : n % 2 ≡ 0 = grind (arith, nat_tests) in omega arith),
  (λ h. let e : n % 2 ≡ 0 = grind (arith, nat_tests) in omega arith),
  (λ h. let e : n % 2 ≡ 1 = grind (arith, nat_tests) in omega arith),
)

pub halves : (z : ℤ) → z ≡ half z +ℤ half z +ℤ bit (odd z)
halves (pos n) = by (n % 2 == 1) refl
  where
    by : (b : Bool) → (n % 2 == 1) ≡ b → pos n ≡ pos (n / 2) +ℤ pos (n / 2) +ℤ bit b
    by true t = let e : n ≡ n / 2 + n / 2 + 1 = (parity n).0 t in omega (arith, ints)
    by false t = let e : n ≡ n / 2 + n / 2 = (parity n).1 t in omega (arith, ints)
halves (negsuc n) = by (n % 2 == 0) refl
  where
    by : (b : Bool) → (n % 2 == 0) ≡ b → negsuc n ≡ negsuc (n / 2) +ℤ negsuc (n / 2) +ℤ bit b
    by true t = let e : n ≡ n / 2 + n / 2 = (parity n).2 t in omega (arith, ints)
    by false t = let e : n ≡ n / 2 + n / 2 + 1 = (parity n).3 t in omega (arith, ints)

-- an adder's bit: a sum of two numbers and a carry
add_up : (x y h k : ℤ) (a b c : Bool) → x ≡ h +ℤ h +ℤ bit a → y ≡ k +ℤ k +ℤ bit b → x +ℤ y +ℤ bit c ≡ (h +ℤ k +ℤ bit (carried a b c)) +ℤ (h +ℤ k +ℤ bit (carried a b c)) +ℤ bit (exclusive (exclusive a b) c)
add_up x y h k true true true p q = omega (arith, ints)
add_up x y h k true true false p q = omega (arith, ints)
add_up x y h k true false true p q = omega (arith, ints)
add_up x y h k true false false p q = omega (arith, ints)
add_up x y h k false true true p q = omega (arith, ints)
add_up x y h k false true false p q = omega (arith, ints)
add_up x y h k false false true p q = omega (arith, ints)
add_up x y h k false false false p q = omega (arith, ints)

-- the adder adds
pub summed_bits : (w : ℕ) (x y : ℤ) (c : Bool) → summed (bits_of w x) (bits_of w y) c ≡ bits_of w (x +ℤ y +ℤ bit c)
unfolding bits_of
summed_bits zero x y c = refl
summed_bits (suc w) x y c =
    let e = add_up x y (half x) (half y) (odd x) (odd y) c (halves x) (halves y) in
    rw (
      odd_once (x +ℤ y +ℤ bit c) (half x +ℤ half y +ℤ bit (carried (odd x) (odd y) c)) (exclusive (exclusive (odd x) (odd y)) c) e,
      half_once (x +ℤ y +ℤ bit c) (half x +ℤ half y +ℤ bit (carried (odd x) (odd y) c)) (exclusive (exclusive (odd x) (odd y)) c) e,
    )
    (ap (λ bs. exclusive (exclusive (odd x) (odd y)) c ∷ bs) (summed_bits w (half x) (half y) (carried (odd x) (odd y) c)))
