-- Intervals of numbers: arithmetic, with ends that saturate at one bound, and the limit of magnitude.
use Rattle.std.specs.Prelude.{Bool, ◌&&◌, List, [], ◌∷◌, ℤ, pos, neg_ℤ, ◌+ℤ◌, ◌-ℤ◌, ◌*ℤ◌, int_le}
use Rattle.std.specs.Int.{int_min, int_max}
use Rattle.std.specs.List.{fold}
use Rattle.smv_kinds.specs.declared.intervals.Interval.{Interval}

-- the greatest magnitude of a number
abbrev pub limit : ℤ
limit = pos 2147483647

-- whether a number is within the limit of magnitude
unfoldable pub is_within : ℤ → Bool
is_within n = int_le (neg_ℤ limit) n && int_le n limit

-- the magnitude at which the ends of intervals saturate: 2 ^ 62
abbrev pub bound : ℤ
bound = pos 4611686018427387904

-- the nearest number whose magnitude is at most the bound
unfoldable pub saturated : ℤ → ℤ
saturated n = int_max (neg_ℤ bound) (int_min n bound)

-- the interval with these ends, each saturated
abbrev pub between : ℤ → ℤ → Interval
between low high = record { low = saturated low; high = saturated high }

-- the interval of a single number
abbrev pub alone : ℤ → Interval
alone n = between n n

-- whether both ends of an interval are within the limit of magnitude
abbrev pub is_narrow : Interval → Bool
is_narrow i = is_within i.low && is_within i.high

-- the least interval that contains two intervals
unfoldable pub hull : Interval → Interval → Interval
hull a b = record { low = int_min a.low b.low; high = int_max a.high b.high }

-- the interval of the sums
abbrev pub sum : Interval → Interval → Interval
sum a b = between (a.low +ℤ b.low) (a.high +ℤ b.high)

-- the interval of the differences
abbrev pub difference : Interval → Interval → Interval
difference a b = between (a.low -ℤ b.high) (a.high -ℤ b.low)

-- the interval of the products: the least that contains the products of the ends
abbrev pub product : Interval → Interval → Interval
product a b = hull (hull (alone (a.low *ℤ b.low)) (alone (a.low *ℤ b.high)))
    (hull (alone (a.high *ℤ b.low)) (alone (a.high *ℤ b.high)))

-- the interval of the remainders of a division: from 0 to the greatest divisor less 1; it depends
-- on the divisor alone
abbrev pub remainder : Interval → Interval
remainder divisor = between (pos 0) (divisor.high -ℤ pos 1)

-- the interval of the numbers with the opposite sign
abbrev pub opposite : Interval → Interval
opposite a = between (neg_ℤ a.high) (neg_ℤ a.low)

-- the interval of the first of these numbers; that of 0 without numbers
abbrev pub first_alone : List ℤ → Interval
first_alone [] = alone (pos 0)
first_alone (n ∷ more) = alone n

-- the least interval that contains these numbers
abbrev pub holding : List ℤ → Interval
holding numbers = fold (λ i n. hull i (alone n)) (first_alone numbers) numbers
