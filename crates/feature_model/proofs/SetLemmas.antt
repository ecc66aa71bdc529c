-- Sets of features: what is in them after each operation on their bits.
use Rattle.std.proofs.Common.{◌≡◌, ℕ, ◌-◌, ◌*◌, ◌%◌, ◌^◌, ◌<◌, ◌≤◌, min, max, Bool, true, false, not, ◌&&◌, ◌||◌, eqb, refl, sym, ap, ◌∙◌, subst, arith, suc, pow_pos, pow_mono, zero-mul, w64, inl, inr}
use Rattle.std.specs.Prelude.{bit_and, bit_or, Option, Some, None, MatchOption}
use Rattle.std.specs.Int.Bits.{or_add_and}
use Rattle.std.proofs.lemmas.Bool.Decides.{nat_tests}
use Rattle.std.proofs.lemmas.Bool.{cases_lt}
use Rattle.std.proofs.Math.Nat.{two-pow-succ}
use Rattle.std.specs.Int.{bit_at, trailing_zeros}
use Rattle.std.proofs.lemmas.Nat.Bits.{bit_at_above, bit_at_and, bit_at_or, bit_at-lt, and_pow, bit_at_ones, bit_at_not, bit_at-trailing_zeros, bit_at-zero, bit_at_mask_below, ones_shl}
use Rattle.feature_model.specs.Products.{has, IsFirstOf}

-- ---- a bit is 0 or 1

pub of_min : (m n : ℕ) → m < 2 → n < 2 → eqb (min m n) 1 ≡ (eqb m 1 && eqb n 1)
of_min m n h k = grind arith

pub of_max : (m n : ℕ) → m < 2 → n < 2 → eqb (max m n) 1 ≡ (eqb m 1 || eqb n 1)
of_max m n h k = grind arith

same_small : (m n : ℕ) → m < 2 → n < 2 → eqb m 1 ≡ eqb n 1 → m ≡ n
same_small m n h k e = grind (arith, nat_tests)

-- ---- sets

pub has_both : (a b f : ℕ) → has (bit_and a b) f ≡ (has a f && has b f)
has_both a b f = ap (λ x. eqb x 1) (bit_at_and a b f) ∙ of_min (bit_at a f) (bit_at b f) (bit_at-lt a f) (bit_at-lt b f)

pub has_either : (a b f : ℕ) → has (bit_or a b) f ≡ (has a f || has b f)
has_either a b f = ap (λ x. eqb x 1) (bit_at_or a b f) ∙ of_max (bit_at a f) (bit_at b f) (bit_at-lt a f) (bit_at-lt b f)

-- a number below a power of two has no bit from there on
pub lacks_beyond : (a count f : ℕ) → a < 2 ^ count → count ≤ f → has a f ≡ false
lacks_beyond a count f h k = ap (λ x. eqb x 1) (bit_at_above a count f h k)

pub has_beyond : (a f : ℕ) → a < 2 ^ 64 → 64 ≤ f → has a f ≡ false
has_beyond a f h k = lacks_beyond a 64 f h k

pub has_no : (a f : ℕ) → has a f ≡ false → bit_at a f ≡ 0
has_no a f h = grind (arith, nat_tests, bit_at-lt a f)

pub power_within : (f : ℕ) → f < 64 → 1 * 2 ^ f % 2 ^ 64 ≡ 2 ^ f
power_within f h = let small : 2 ^ f < 2 ^ 64 = omega (arith, two-pow-succ f, pow_pos f, pow_mono {i = suc f} {j = 64} h) in omega arith

-- a feature more makes the number greater
pub greater_with : (a f : ℕ) → f < 64 → has a f ≡ false → a < bit_or a (1 * 2 ^ f % 2 ^ 64)
greater_with a f small h =
    let none : bit_and a (2 ^ f) ≡ 0 = and_pow a f ∙ ap (λ b. b * 2 ^ f) (has_no a f h) ∙ zero-mul (2 ^ f) in
    subst (λ x. a < bit_or a x) (sym (power_within f small)) (omega (arith, or_add_and a (2 ^ f), none, pow_pos f))

pub has_all : (f : ℕ) → f < 64 → has 18446744073709551615 f ≡ true
has_all f small = ap (λ x. eqb x 1) (bit_at_ones 64 f small)

pub has_absent : (a f : ℕ) → a < 2 ^ 64 → f < 64 → has (18446744073709551615 - a) f ≡ not (has a f)
has_absent a f h small = let e = bit_at_not w64 a f h small in grind (arith, nat_tests, e, bit_at-lt a f)

-- the lowest bit of a number that is not 0
pub first_of : (a : ℕ) → a < 2 ^ 64 → 0 < a → IsFirstOf a (trailing_zeros w64 a)
first_of a h more = let e = bit_at-trailing_zeros w64 a more h in record {
  small = e.0;
  there = ap (λ x. eqb x 1) e.1;
  first = λ g below. ap (λ x. eqb x 1) (e.2 g below);
}

pub has_zero : (f : ℕ) → has 0 f ≡ false
has_zero f = ap (λ x. eqb x 1) (bit_at-zero f)

-- what two sets have in common
pub common_left : (a b f : ℕ) → has (bit_and a b) f ≡ true → has a f ≡ true
common_left a b f h = of_both (has a f) (has b f) (sym (has_both a b f) ∙ h) where
  of_both : (x y : Bool) → (x && y) ≡ true → x ≡ true
  of_both true y e = refl
  of_both false y e = e

pub common_right : (a b f : ℕ) → has (bit_and a b) f ≡ true → has b f ≡ true
common_right a b f h = of_both (has a f) (has b f) (sym (has_both a b f) ∙ h) where
  of_both : (x y : Bool) → (x && y) ≡ true → y ≡ true
  of_both true y e = e
  of_both false true e = refl
  of_both false false e = e

pub not_common : (a b f : ℕ) → has (bit_and a b) f ≡ false → has a f ≡ true → has b f ≡ false
not_common a b f h there = ap (λ x. x && has b f) (sym there) ∙ sym (has_both a b f) ∙ h

-- the first feature of what two sets have in common is in both
pub common_of : (a b : ℕ) (r : Option ℕ) → MatchOption r ((f : ℕ) → has (bit_and a b) f ≡ false) (IsFirstOf (bit_and a b)) → MatchOption r ((f : ℕ) → has a f ≡ true → has b f ≡ false) (λ f. (f < 64) × (has a f ≡ true) × (has b f ≡ true))
common_of a b None h = λ f there. not_common a b f (h f) there
common_of a b (Some f) h = (h.small, common_left a b f h.there, common_right a b f h.there)

-- a set of 64 bits has nothing beyond them in common with another
pub has_within : (a b f : ℕ) → a < 2 ^ 64 → 64 ≤ f → has (bit_and a b) f ≡ false
has_within a b f h beyond = has_both a b f ∙ ap (λ x. x && has b f) (has_beyond a f h beyond)

-- a feature of a set of 64 bits is below 64
pub below_64 : (a f : ℕ) → a < 2 ^ 64 → has a f ≡ true → f < 64
below_64 a f h there = elim (cases_lt f 64) [ inl small ↦ small | inr beyond ↦ (let none : has a f ≡ false = has_beyond a f h beyond in cc) ]

-- the features from a number on
pub has_upper : (count f : ℕ) → count < 64 → has (18446744073709551615 * 2 ^ count % 18446744073709551616) f ≡ true → count ≤ f
has_upper count f h there =
    let upper : has (2 ^ 64 - 2 ^ count) f ≡ true = subst (λ x. has x f ≡ true) (ones_shl 64 count (omega arith)) there in
    elim (cases_lt f count) [ inl below ↦ (let none : has (2 ^ 64 - 2 ^ count) f ≡ false = ap (λ x. eqb x 1) (bit_at_mask_below count 64 f below) in cc) | inr above ↦ above ]

pub same_bit : (a b f : ℕ) → has a f ≡ has b f → bit_at a f ≡ bit_at b f
same_bit a b f h = same_small (bit_at a f) (bit_at b f) (bit_at-lt a f) (bit_at-lt b f) h
