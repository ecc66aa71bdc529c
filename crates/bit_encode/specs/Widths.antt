-- How many bits numbers need.
use Rattle.std.specs.Prelude.{ℕ, suc, ◌-◌, if◌then◌else◌, nat_lt, ℤ, pos, negsuc}
use Rattle.std.specs.Int.Count.{count_leading_zeros}
use Rattle.flat_model.specs.declared.intervals.Interval.{Interval}
use Rattle.flat_model.specs.Intervals.{IsIn}
use Rattle.bit_encode.specs.Numbers.{FitsBits}

-- the greater of two numbers
abbrev pub greater : ℕ → ℕ → ℕ
greater m n = if nat_lt m n then n else m

-- the binary digits of a number below 2 ^ 64, leading zeros aside
abbrev pub digits : ℕ → ℕ
digits n = 64 - count_leading_zeros 64 n

-- the binary digits of a number of 64 bits in two's complement, its sign aside
abbrev pub signed_digits : ℤ → ℕ
signed_digits (pos n) = digits n
signed_digits (negsuc n) = digits n

-- the least number of bits, at least 1, that has both ends of an interval with their signs
abbrev pub width_of : Interval → ℕ
width_of interval = suc (greater (signed_digits interval.low) (signed_digits interval.high))

-- each number of the interval has no more than so many bits, its sign among them
pub record HasBitsFor (interval : Interval) (w : ℕ) : Type 0 where
  pub fits : (z : ℤ) → IsIn interval z → FitsBits w z

-- the least number of bits that can number so many positions
abbrev pub position_width : ℕ → ℕ
position_width count = digits (count - 1)
