-- What the runs over words mean for the numbers that the words spell.
use Rattle.std.proofs.Common.{◌≡◌, ℕ, zero, suc, ◌+◌, ◌-◌, ◌*◌, ◌%◌, ◌<◌, ◌≤◌, ◌^◌, Bool, false, List, length, ℤ, pos, negsuc, ◌≤ℤ◌, ◌<ℤ◌, ◌-ℤ◌, int_lt, int_rem, arith, refl, sym, ◌∙◌, ap, subst}
use Rattle.std.specs.List.{list_all}
use Rattle.std.specs.Ordering.{int_eq}
use Rattle.std.proofs.lemmas.Int.{ints}
use Rattle.std.proofs.Math.Nat.{pow-suc}
use Rattle.std.proofs.Math.Pow.{pow_mono}
use Rattle.sat_lits.specs.Literals.{literal_true}
use Rattle.gate_build.specs.Circuits.{Circuit}
use Rattle.gate_build.specs.Meaning.{Holds}
use Rattle.bit_encode.specs.Numbers.{bits_of, truths_of, FitsBits}
use Rattle.bit_encode.specs.Meaning.{HasLowBits, Spells, difference, product, Calculates, AddsUp, Tests, LeavesRemainder}
use Rattle.bit_encode.specs.Widths.{greater}
use Rattle.bit_encode.specs.Words.{sign_of}
use Rattle.bit_encode.specs.Arithmetic.{add_of, subtract_of, less_of, equal_of, multiply_of, remainder_of}
use Rattle.bit_encode.proofs.BitCircuits.{summed, less, multiplied, rest_of, paired}
use Rattle.bit_encode.proofs.Halves.{summed_bits}
use Rattle.bit_encode.proofs.NumberLaws.{less_bits, sign_of_bits, product_bits, rest_bits}
use Rattle.bit_encode.proofs.TruthLemmas.{both, add_of-gives, subtract_of-gives, less_of-gives, equal_of-gives, multiply_of-gives, remainder_of-gives}
use Rattle.bit_encode.proofs.SpellingLemmas.{HasLowBits-from, Spells-from, widened_spelled, fits_wider, fits_difference, greater-left, greater-right, negative_difference, same_bit, same_numbers}

-- the lowest bits at the width of another word
at_width : (values : ℕ → Bool) (xs ys : List ℕ) (y : ℤ) → length xs ≡ length ys → HasLowBits values ys y → truths_of values ys ≡ bits_of (length xs) y
at_width values xs ys y same low = low.bits ∙ ap (λ n. bits_of n y) (sym same)

-- ---- Sums, differences and products

pub AddsUp-from : (xs ys word : List ℕ) (c : ℕ) (old new : Circuit) → length xs ≡ length ys → (word, new) ≡ add_of xs ys c old → AddsUp new xs ys c word
AddsUp-from xs ys word c old new same is =
    subst (λ (r : List ℕ × Circuit). AddsUp r.1 xs ys c r.0) (sym is)
    (record {
      adds = λ values x y hold low_x low_y.
          HasLowBits-from values (add_of xs ys c old).0 (length xs) _
          ((add_of-gives values xs ys c old hold).1
          ∙ both (λ us vs. summed us vs (literal_true values c)) low_x.bits (at_width values xs ys y same low_y)
          ∙ summed_bits (length xs) x y (literal_true values c));
    })

pub Calculates-subtract_of : (xs ys word : List ℕ) (old new : Circuit) → length xs ≡ length ys → (word, new) ≡ subtract_of xs ys old → Calculates new difference xs ys word
Calculates-subtract_of xs ys word old new same is =
    subst (λ (r : List ℕ × Circuit). Calculates r.1 difference xs ys r.0) (sym is)
    (record {
      calculates = λ values x y hold low_x low_y.
          HasLowBits-from values (subtract_of xs ys old).0 (length xs) _
          ((subtract_of-gives values xs ys old hold).1
          ∙ both less low_x.bits (at_width values xs ys y same low_y)
          ∙ less_bits (length xs) x y);
    })

pub Calculates-multiply_of : (xs ys word : List ℕ) (old new : Circuit) → length xs ≡ length ys → (word, new) ≡ multiply_of xs ys old → Calculates new product xs ys word
Calculates-multiply_of xs ys word old new same is =
    subst (λ (r : List ℕ × Circuit). Calculates r.1 product xs ys r.0) (sym is)
    (record {
      calculates = λ values x y hold low_x low_y.
          HasLowBits-from values (multiply_of xs ys old).0 (length xs) _
          ((multiply_of-gives values xs ys old hold).1
          ∙ ap (λ n. multiplied (bits_of n (pos 0)) (truths_of values ys) (truths_of values xs)) (sym same)
          ∙ both (multiplied (bits_of (length xs) (pos 0))) (at_width values xs ys y same low_y) low_x.bits
          ∙ product_bits (length xs) x y);
    })

-- ---- Comparisons

-- the width at which two words are compared has both numbers
fits_both : (values : ℕ → Bool) (xs ys : List ℕ) (z : ℤ) (word : List ℕ) → length word ≤ greater (length xs) (length ys) → Spells values word z → FitsBits (greater (length xs) (length ys)) z
fits_both values xs ys z word le spells = fits_wider (length word) (greater (length xs) (length ys)) z le spells.fits

pub Tests-less_of : (xs ys : List ℕ) (l : ℕ) (old new : Circuit) → (l, new) ≡ less_of xs ys old → Tests new int_lt xs ys l
Tests-less_of xs ys l old new is =
    subst (λ (r : ℕ × Circuit). Tests r.1 int_lt xs ys r.0) (sym is)
    (record {
      tests = λ values x y hold spells_x spells_y.
          let w = greater (length xs) (length ys) in
          let some : 1 ≤ w = omega (arith, spells_x.some, greater-left (length xs) (length ys)) in
          let fits : FitsBits (suc w) (x -ℤ y) = fits_difference w x y some
          (fits_both values xs ys x xs (greater-left (length xs) (length ys)) spells_x)
          (fits_both values xs ys y ys (greater-right (length xs) (length ys)) spells_y) in
          (less_of-gives values xs ys old (suc w) refl hold).1
          ∙ ap (sign_of false) (both less (widened_spelled values xs x (suc w) spells_x) (widened_spelled values ys y (suc w) spells_y) ∙ less_bits (suc w) x y)
          ∙ sign_of_bits w (x -ℤ y) fits
          ∙ negative_difference x y (x -ℤ y) refl;
    })

pub Tests-equal_of : (xs ys : List ℕ) (l : ℕ) (old new : Circuit) → (l, new) ≡ equal_of xs ys old → Tests new int_eq xs ys l
Tests-equal_of xs ys l old new is =
    subst (λ (r : ℕ × Circuit). Tests r.1 int_eq xs ys r.0) (sym is)
    (record { tests = λ values x y hold spells_x spells_y. by values x y hold spells_x spells_y (greater (length xs) (length ys)) refl })
  where
    by : (values : ℕ → Bool) (x y : ℤ) → Holds values (equal_of xs ys old).1 → Spells values xs x → Spells values ys y → (w : ℕ) → w ≡ greater (length xs) (length ys) → literal_true values (equal_of xs ys old).0 ≡ int_eq x y
    by values x y hold spells_x spells_y zero width = absurd (omega (arith, spells_x.some, greater-left (length xs) (length ys)))
    by values x y hold spells_x spells_y (suc w) width =
        (equal_of-gives values xs ys old (suc w) width hold).1
        ∙ ap (list_all (λ b. b)) (both (paired same_bit) (widened_spelled values xs x (suc w) spells_x) (widened_spelled values ys y (suc w) spells_y))
        ∙ same_numbers w x y
        (subst (λ n. FitsBits n x) (sym width) (fits_both values xs ys x xs (greater-left (length xs) (length ys)) spells_x))
        (subst (λ n. FitsBits n y) (sym width) (fits_both values xs ys y ys (greater-right (length xs) (length ys)) spells_y))

-- ---- Remainders

below_power : (w n : ℕ) → FitsBits w (pos n) → n < 2 ^ w
below_power w n fits = let p : 2 ^ (w - 1) ≤ 2 ^ w = pow_mono (omega arith) in omega arith

twice_below : (w n : ℕ) → 1 ≤ w → FitsBits w (pos n) → n + n ≤ 2 ^ w
twice_below zero n some fits = absurd (omega arith)
twice_below (suc w) n some fits =
    let low : suc w - 1 ≡ w = omega arith in
    let e : n < 2 ^ w = subst (λ k. n < 2 ^ k) low fits in
    let two : 2 ^ suc w ≡ 2 ^ w * 2 = pow-suc 2 w in
    omega arith

fits_less : (w n m : ℕ) → n < m → FitsBits w (pos m) → FitsBits (suc w) (pos n)
fits_less w n m lt fits =
    let p : 2 ^ (w - 1) ≤ 2 ^ (suc w - 1) = pow_mono (omega arith) in
    omega arith

pub LeavesRemainder-from : (xs ys word : List ℕ) (old new : Circuit) → (word, new) ≡ remainder_of xs ys old → LeavesRemainder new xs ys word
LeavesRemainder-from xs ys word old new is =
    subst (λ (r : List ℕ × Circuit). LeavesRemainder r.1 xs ys r.0) (sym is)
    (record { leaves = λ values x y hold spells_x spells_y low above. by values x y hold spells_x spells_y low above })
  where
    w : ℕ
    w = greater (length xs) (length ys)

    by : (values : ℕ → Bool) (x y : ℤ) → Holds values (remainder_of xs ys old).1 → Spells values xs x → Spells values ys y → pos 0 ≤ℤ x → pos 0 <ℤ y → Spells values (remainder_of xs ys old).0 (int_rem x y)
    by values (negsuc n) y hold spells_x spells_y low above = absurd (omega (arith, ints))
    by values (pos n) (negsuc m) hold spells_x spells_y low above = absurd (omega (arith, ints))
    by values (pos n) (pos m) hold spells_x spells_y low above =
        let positive : 0 < m = omega (arith, ints) in
        let fits : FitsBits w (pos m) = fits_both values xs ys (pos m) ys (greater-right (length xs) (length ys)) spells_y in
        let some : 1 ≤ w = omega (arith, spells_x.some, greater-left (length xs) (length ys)) in
        let small : n % m < m = omega arith in
        Spells-from values (remainder_of xs ys old).0 (suc w) (pos (n % m)) (omega arith) (fits_less w (n % m) m small fits)
        ((remainder_of-gives values xs ys old (suc w) refl hold).1
        ∙ both (rest_of (suc w)) spells_x.bits (widened_spelled values ys (pos m) (suc w) spells_y)
        ∙ rest_bits (length xs) w n m (below_power (length xs) n spells_x.fits) positive (twice_below w m some fits))
