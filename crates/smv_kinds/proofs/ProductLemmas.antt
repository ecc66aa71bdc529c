-- Products of the numbers of two intervals.
use Rattle.std.proofs.Common.{ℕ, suc, ◌⊎◌, inl, inr, arith}
use Rattle.std.specs.Prelude.{ℤ, pos, negsuc, ◌*ℤ◌, ◌≤ℤ◌}
use Rattle.std.specs.Int.{int_min, int_max}
use Rattle.std.proofs.lemmas.Int.{ints, clamps}
use Rattle.std.proofs.Math.Nat.{mul-le-mul_left}
use borrow.Author.Differences.{at_most_in, le_out, product_is}
use lib.IntN.{*ℤ_comm}

-- the least of four
abbrev pub low_of : ℤ → ℤ → ℤ → ℤ → ℤ
low_of p q r s = int_min (int_min p q) (int_min r s)

-- the greatest of four
abbrev pub high_of : ℤ → ℤ → ℤ → ℤ → ℤ
high_of p q r s = int_max (int_max p q) (int_max r s)

-- the least of four is below each, the greatest above
pub low_below : (p q r s : ℤ) → (low_of p q r s ≤ℤ p) × (low_of p q r s ≤ℤ q) × (low_of p q r s ≤ℤ r) × (low_of p q r s ≤ℤ s)
low_below p q r s = (omega (arith, ints, clamps), omega (arith, ints, clamps), omega (arith, ints, clamps), omega (arith, ints, clamps))

pub high_above : (p q r s : ℤ) → (p ≤ℤ high_of p q r s) × (q ≤ℤ high_of p q r s) × (r ≤ℤ high_of p q r s) × (s ≤ℤ high_of p q r s)
high_above p q r s = (omega (arith, ints, clamps), omega (arith, ints, clamps), omega (arith, ints, clamps), omega (arith, ints, clamps))

-- both preserve the order
min_under : (a b c d : ℤ) → a ≤ℤ c → b ≤ℤ d → int_min a b ≤ℤ int_min c d
min_under a b c d h k = omega (arith, ints, clamps)

max_over : (a b c d : ℤ) → c ≤ℤ a → d ≤ℤ b → int_max c d ≤ℤ int_max a b
max_over a b c d h k = omega (arith, ints, clamps)

pub low_under : (a b c d p q r s : ℤ) → a ≤ℤ p → b ≤ℤ q → c ≤ℤ r → d ≤ℤ s → low_of a b c d ≤ℤ low_of p q r s
low_under a b c d p q r s f g h k = min_under (int_min a b) (int_min c d) (int_min p q) (int_min r s) (min_under a b p q f g) (min_under c d r s h k)

pub high_over : (a b c d p q r s : ℤ) → p ≤ℤ a → q ≤ℤ b → r ≤ℤ c → s ≤ℤ d → high_of p q r s ≤ℤ high_of a b c d
high_over a b c d p q r s f g h k = max_over (int_max a b) (int_max c d) (int_max p q) (int_max r s) (max_over a b p q f g) (max_over c d r s h k)

-- a factor of zero or more preserves the order
keeps : (k : ℕ) (x y : ℤ) → x ≤ℤ y → (x *ℤ pos k) ≤ℤ (y *ℤ pos k)
keeps k x y h =
    at_most_in _ _ (omega (arith, product_is x (pos k), product_is y (pos k), le_out x y h, mul-le-mul_left k (le_out x y h)))

-- a factor below zero reverses the order
reverses : (k : ℕ) (x y : ℤ) → x ≤ℤ y → (y *ℤ negsuc k) ≤ℤ (x *ℤ negsuc k)
reverses k x y h =
    at_most_in _ _ (omega (arith, product_is x (negsuc k), product_is y (negsuc k), le_out x y h, mul-le-mul_left (suc k) (le_out x y h)))

-- a product lies between the products of the ends
pub along : (m x n y : ℤ) → m ≤ℤ x → x ≤ℤ n → (((m *ℤ y) ≤ℤ (x *ℤ y)) × ((x *ℤ y) ≤ℤ (n *ℤ y))) ⊎ (((n *ℤ y) ≤ℤ (x *ℤ y)) × ((x *ℤ y) ≤ℤ (m *ℤ y)))
along m x n (pos k) g h = inl (keeps k m x g, keeps k x n h)
along m x n (negsuc k) g h = inr (reverses k x n h, reverses k m x g)

-- the same for the other factor
pub across : (y m x n : ℤ) → m ≤ℤ x → x ≤ℤ n → (((y *ℤ m) ≤ℤ (y *ℤ x)) × ((y *ℤ x) ≤ℤ (y *ℤ n))) ⊎ (((y *ℤ n) ≤ℤ (y *ℤ x)) × ((y *ℤ x) ≤ℤ (y *ℤ m)))
across y m x n g h = rw (*ℤ_comm y m, *ℤ_comm y x, *ℤ_comm y n) (along m x n y g h)

-- one number lies between two, in either order
abbrev Lies : ℤ → ℤ → ℤ → Type 0
Lies p q r = ((p ≤ℤ q) × (q ≤ℤ r)) ⊎ ((r ≤ℤ q) × (q ≤ℤ p))

-- a number between numbers that lie between the four lies between their least and greatest
corners : (ac ad bc bd ay by xy : ℤ) → Lies ay xy by → Lies ac ay ad → Lies bc by bd → (low_of ac ad bc bd ≤ℤ xy) × (xy ≤ℤ high_of ac ad bc bd)
corners ac ad bc bd ay by xy (inl f) (inl g) (inl h) = (omega (arith, ints, clamps), omega (arith, ints, clamps))
corners ac ad bc bd ay by xy (inl f) (inl g) (inr h) = (omega (arith, ints, clamps), omega (arith, ints, clamps))
corners ac ad bc bd ay by xy (inl f) (inr g) (inl h) = (omega (arith, ints, clamps), omega (arith, ints, clamps))
corners ac ad bc bd ay by xy (inl f) (inr g) (inr h) = (omega (arith, ints, clamps), omega (arith, ints, clamps))
corners ac ad bc bd ay by xy (inr f) (inl g) (inl h) = (omega (arith, ints, clamps), omega (arith, ints, clamps))
corners ac ad bc bd ay by xy (inr f) (inl g) (inr h) = (omega (arith, ints, clamps), omega (arith, ints, clamps))
corners ac ad bc bd ay by xy (inr f) (inr g) (inl h) = (omega (arith, ints, clamps), omega (arith, ints, clamps))
corners ac ad bc bd ay by xy (inr f) (inr g) (inr h) = (omega (arith, ints, clamps), omega (arith, ints, clamps))

pub product_between : (a b c d x y : ℤ) → a ≤ℤ x → x ≤ℤ b → c ≤ℤ y → y ≤ℤ d →
    (low_of (a *ℤ c) (a *ℤ d) (b *ℤ c) (b *ℤ d) ≤ℤ (x *ℤ y)) × ((x *ℤ y) ≤ℤ high_of (a *ℤ c) (a *ℤ d) (b *ℤ c) (b *ℤ d))
product_between a b c d x y ax xb cy yd =
    corners (a *ℤ c) (a *ℤ d) (b *ℤ c) (b *ℤ d) (a *ℤ y) (b *ℤ y) (x *ℤ y) (along a x b y ax xb) (across a c y d cy yd) (across b c y d cy yd)
