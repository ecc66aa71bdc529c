-- The numbers of an interval have no more bits than its width.
use Rattle.std.specs.Prelude.{FitsSigned}
use Rattle.std.proofs.Common.{w64, ◌≡◌, ℕ, suc, ◌+◌, ◌-◌, ◌<◌, ◌≤◌, ◌^◌, ℤ, pos, negsuc, ◌≤ℤ◌, arith, ◌∙◌, ap, subst}
use Rattle.std.proofs.lemmas.Int.{ints}
use Rattle.std.proofs.lemmas.Nat.{leading_length}
use Rattle.std.proofs.Math.Pow.{pow_mono}
use Rattle.bit_encode.specs.Numbers.{FitsBits}
use Rattle.flat_model.specs.declared.intervals.Interval.{Interval}
use Rattle.bit_encode.specs.Widths.{greater, digits, signed_digits, HasBitsFor}
use Rattle.bit_encode.proofs.SpellingLemmas.{Below, greater-left, greater-right}

digits_fit : (n : ℕ) → n < 2 ^ 64 → n < 2 ^ digits n
digits_fit n small =
    let length = leading_length 64 n small in
    let e : length.0 ≡ digits n = omega (arith, length.1) in
    subst (λ k. n < 2 ^ k) e length.2

-- one bit more than digits, for the sign
with_sign : (w n : ℕ) → n < 2 ^ w → n < 2 ^ (suc w - 1)
with_sign w n lt = let e : w ≡ suc w - 1 = omega arith in subst (λ k. n < 2 ^ k) e lt

pub fits_width : (low high z : ℤ) → Below (2 ^ 64) low → Below (2 ^ 64) high → low ≤ℤ z → z ≤ℤ high → FitsBits (suc (greater (signed_digits low) (signed_digits high))) z
fits_width low (pos h) (pos n) small_low small_high above below =
    let le : n ≤ h = omega (arith, ints) in
    let lt : h < 2 ^ digits h = digits_fit h small_high in
    let p : 2 ^ digits h ≤ 2 ^ greater (signed_digits low) (digits h) = pow_mono (greater-right (signed_digits low) (digits h)) in
    with_sign (greater (signed_digits low) (digits h)) n (omega arith)
fits_width low (negsuc h) (pos n) small_low small_high above below = absurd (omega (arith, ints))
fits_width (pos l) high (negsuc n) small_low small_high above below = absurd (omega (arith, ints))
fits_width (negsuc l) high (negsuc n) small_low small_high above below =
    let le : n ≤ l = omega (arith, ints) in
    let lt : l < 2 ^ digits l = digits_fit l small_low in
    let p : 2 ^ digits l ≤ 2 ^ greater (digits l) (signed_digits high) = pow_mono (greater-left (digits l) (signed_digits high)) in
    with_sign (greater (digits l) (signed_digits high)) n (omega arith)

FitsSigned-below : (z : ℤ) → FitsSigned w64 z → Below (2 ^ 64) z
FitsSigned-below (pos n) fits = let h : n < 2 ^ 63 = fits.sfits in omega arith
FitsSigned-below (negsuc n) fits = let h : n < 2 ^ 63 = fits.sfits in omega arith

pub HasBitsFor-from : (interval : Interval) (w m n : ℕ) → FitsSigned w64 interval.low → FitsSigned w64 interval.high
    → m ≡ signed_digits interval.low → n ≡ signed_digits interval.high → w ≡ greater m n + 1 → HasBitsFor interval w
HasBitsFor-from interval w m n small_low small_high is_m is_n is = record {
  fits = λ z inside.
      let same : suc (greater (signed_digits interval.low) (signed_digits interval.high)) ≡ w =
      let e : greater m n ≡ greater (signed_digits interval.low) (signed_digits interval.high) = ap (λ k. greater k n) is_m ∙ ap (greater (signed_digits interval.low)) is_n in
      omega arith in
      subst (λ k. FitsBits k z) same (fits_width interval.low interval.high z (FitsSigned-below interval.low small_low) (FitsSigned-below interval.high small_high) inside.above inside.below);
}
