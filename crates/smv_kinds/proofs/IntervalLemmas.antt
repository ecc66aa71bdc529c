-- Saturated ends, and ends within the limit of magnitude.
use Rattle.std.proofs.Common.{◌≡◌, true, refl, ap, ◌∙◌, arith}
use Rattle.std.proofs.lemmas.Bool.{and_parts}
use Rattle.std.specs.Prelude.{ℤ, pos, negsuc, neg_ℤ, int_le, ◌≤ℤ◌}
use Rattle.std.specs.Int.{saturate_signed, w64}
use Rattle.std.proofs.lemmas.Int.{ints, clamps}
use Rattle.smv_kinds.specs.Intervals.{limit, is_within, saturated, between}

pub le_then : (a b c : ℤ) → a ≤ℤ b → b ≤ℤ c → a ≤ℤ c
le_then a b c h k = omega (arith, ints)

pub same_le : (a : ℤ) → a ≤ℤ a
same_le a = omega (arith, ints)

-- ---- the limit

-- a number within the limit of magnitude
pub record IsWithin (n : ℤ) : Type 0 where
  pub above : neg_ℤ limit ≤ℤ n
  pub below : n ≤ℤ limit

pub within_of : (n : ℤ) → is_within n ≡ true → IsWithin n
unfolding is_within
within_of n h =
    let b = and_parts (int_le (neg_ℤ limit) n) (int_le n limit) h in
    let l : int_le (neg_ℤ limit) n ≡ true = b.0 in
    let u : int_le n limit ≡ true = b.1 in
    record { above = omega (arith, ints, l); below = omega (arith, ints, u) }

pub of_within : (n : ℤ) → IsWithin n → is_within n ≡ true
unfolding is_within
of_within n h =
    let a = h.above in
    let b = h.below in
    let l : int_le (neg_ℤ limit) n ≡ true = grind (arith, ints) in
    let u : int_le n limit ≡ true = grind (arith, ints) in
    rw (l, u) refl

-- ---- saturated numbers

-- above an end within the limit, saturation does not raise a number
pub low_end : (n low : ℤ) → IsWithin low → low ≤ℤ saturated n → saturated n ≤ℤ n
unfolding saturated
low_end n low w h = let a = w.above in omega (arith, ints, clamps)

-- below an end within the limit, saturation does not lower a number
pub high_end : (n high : ℤ) → IsWithin high → saturated n ≤ℤ high → n ≤ℤ saturated n
unfolding saturated
high_end n high w h = let b = w.below in omega (arith, ints, clamps)

-- a number that saturated at the ends of 64 bits
clipped : (n : ℤ) → saturated (saturate_signed w64 n) ≡ saturated n
unfolding saturated
clipped (pos n) = omega (arith, ints, clamps)
clipped (negsuc n) = omega (arith, ints, clamps)

pub clipped_ends : (p q low high : ℤ) → p ≡ saturate_signed w64 low → q ≡ saturate_signed w64 high → between p q ≡ between low high
clipped_ends p q low high e f =
    let a : saturated p ≡ saturated low = ap saturated e ∙ clipped low in
    let b : saturated q ≡ saturated high = ap saturated f ∙ clipped high in
    rw (a, b) refl

pub clipped_high : (q low high : ℤ) → q ≡ saturate_signed w64 high → between low q ≡ between low high
clipped_high q low high f =
    let b : saturated q ≡ saturated high = ap saturated f ∙ clipped high in
    rw b refl
