-- Products of the numbers of two intervals.
use Rattle.std.proofs.Common.{ℕ, suc, ◌⊎◌, inl, inr, arith}
use Rattle.std.specs.Prelude.{ℤ, pos, negsuc, ◌*ℤ◌, ◌≤ℤ◌}
use Rattle.std.proofs.lemmas.Int.{ints, clamps}
use Rattle.std.proofs.Math.Nat.{mul-le-mul_left}
use Rattle.flat_model.specs.declared.intervals.Interval.{Interval}
use Rattle.flat_model.specs.Intervals.{IsIn, hull, multiples, product}
use borrow.Author.Differences.{at_most_in, le_out, product_is}
use lib.IntN.{*ℤ_comm}

-- a factor of zero or more keeps the order
order_kept : (k : ℕ) (x y : ℤ) → x ≤ℤ y → (x *ℤ pos k) ≤ℤ (y *ℤ pos k)
order_kept k x y h =
    at_most_in _ _ (omega (arith, product_is x (pos k), product_is y (pos k), le_out x y h, mul-le-mul_left k (le_out x y h)))

-- a factor below zero reverses it
order_reversed : (k : ℕ) (x y : ℤ) → x ≤ℤ y → (y *ℤ negsuc k) ≤ℤ (x *ℤ negsuc k)
order_reversed k x y h =
    at_most_in _ _ (omega (arith, product_is x (negsuc k), product_is y (negsuc k), le_out x y h, mul-le-mul_left (suc k) (le_out x y h)))

-- q lies between p and r, in either order
abbrev Between : ℤ → ℤ → ℤ → Type 0
Between p q r = ((p ≤ℤ q) × (q ≤ℤ r)) ⊎ ((r ≤ℤ q) × (q ≤ℤ p))

-- a product lies between the products of the ends
ends_around : (m x n y : ℤ) → m ≤ℤ x → x ≤ℤ n → Between (m *ℤ y) (x *ℤ y) (n *ℤ y)
ends_around m x n (pos k) g h = inl (order_kept k m x g, order_kept k x n h)
ends_around m x n (negsuc k) g h = inr (order_reversed k x n h, order_reversed k m x g)

-- the multiples by z of an interval's numbers lie among its multiples by z
IsIn-multiples : (z : ℤ) (b : Interval) (y : ℤ) → IsIn b y → IsIn (multiples z b) (z *ℤ y)
IsIn-multiples z b y h = elim (ends_around b.low y b.high z h.above h.below) [
  | inl (g, k) ↦ rw (*ℤ_comm z y, *ℤ_comm z b.low, *ℤ_comm z b.high) (record { above = omega (arith, ints, clamps, g); below = omega (arith, ints, clamps, k) })
  | inr (g, k) ↦ rw (*ℤ_comm z y, *ℤ_comm z b.low, *ℤ_comm z b.high) (record { above = omega (arith, ints, clamps, g); below = omega (arith, ints, clamps, k) })
]

-- what lies between a number of one interval and one of another lies in the hull of both
between_in_hull : (a b : Interval) (p q r : ℤ) → IsIn a p → IsIn b r → Between p q r → IsIn (hull a b) q
between_in_hull a b p q r h k (inl (f, g)) = record { above = omega (arith, ints, clamps, h.above, f); below = omega (arith, ints, clamps, k.below, g) }
between_in_hull a b p q r h k (inr (f, g)) = record { above = omega (arith, ints, clamps, k.above, f); below = omega (arith, ints, clamps, h.below, g) }

pub IsIn-product : (a b : Interval) (x y : ℤ) → IsIn a x → IsIn b y → IsIn (product a b) (x *ℤ y)
IsIn-product a b x y h k =
    between_in_hull (multiples a.low b) (multiples a.high b) (a.low *ℤ y) (x *ℤ y) (a.high *ℤ y)
    (IsIn-multiples a.low b y k) (IsIn-multiples a.high b y k) (ends_around a.low x a.high y h.above h.below)
