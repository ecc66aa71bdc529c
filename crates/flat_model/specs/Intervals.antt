-- Interval arithmetic over nodes. Its numbers have no bound.
use Rattle.std.specs.Prelude.{ℕ, ◌-◌, List, [], ◌∷◌, ℤ, pos, ◌+ℤ◌, ◌-ℤ◌, ◌*ℤ◌, ◌≤ℤ◌, Option, Some, None, slice_get, slice_index_or}
use Rattle.std.specs.Int.{int_min, int_max}
use Rattle.std.specs.List.{fold}
use Rattle.flat_model.specs.declared.intervals.Interval.{Interval}
use Rattle.flat_model.specs.declared.nodes.FlatNode.{FlatNode}
use Rattle.flat_model.specs.declared.nodes.FlatNode.TheVariants.{Const, Now, After, Add, Sub, Mul, Mod, Choose}
use Rattle.flat_model.specs.declared.variables.FlatVar.{FlatVar}
use Rattle.flat_model.specs.declared.variables.Values.{Values}
use Rattle.flat_model.specs.declared.variables.Values.TheVariants.{Boolean, Range, Table}
use Rattle.flat_model.specs.Numbers.{IsWithinLimit}
use Rattle.flat_model.specs.Nodes.{attributes}

-- the number lies in the interval
pub record IsIn (interval : Interval) (z : ℤ) : Type 0 where
  pub above : interval.low ≤ℤ z
  pub below : z ≤ℤ interval.high

-- the interval lies within the limit of magnitude
pub record IsWithinLimits (interval : Interval) : Type 0 where
  pub low : IsWithinLimit interval.low
  pub high : IsWithinLimit interval.high

abbrev pub interval : ℤ → ℤ → Interval
interval low high = record { low = low; high = high }

-- the interval of one number
abbrev pub alone : ℤ → Interval
alone z = interval z z

-- the interval of truth values
abbrev pub truths : Interval
truths = interval (pos 0) (pos 1)

-- the least interval that holds both
abbrev pub hull : Interval → Interval → Interval
hull a b = interval (int_min a.low b.low) (int_max a.high b.high)

-- the interval of the sums
abbrev pub sum : Interval → Interval → Interval
sum a b = interval (a.low +ℤ b.low) (a.high +ℤ b.high)

-- the interval of the differences
abbrev pub difference : Interval → Interval → Interval
difference a b = interval (a.low -ℤ b.high) (a.high -ℤ b.low)

-- the interval of the multiples of an interval's numbers by one number: those of the ends lie outermost
abbrev pub multiples : ℤ → Interval → Interval
multiples factor a = hull (alone (factor *ℤ a.low)) (alone (factor *ℤ a.high))

-- the interval of the products: the multiples by the ends lie outermost
abbrev pub product : Interval → Interval → Interval
product a b = hull (multiples a.low b) (multiples a.high b)

-- the interval of what a division by these leaves: from 0 to the greatest divisor less 1
abbrev pub remainder : Interval → Interval
remainder divisor = interval (pos 0) (divisor.high -ℤ pos 1)

-- the least interval that holds these numbers
abbrev pub holding : List ℤ → Interval
holding [] = alone (pos 0)
holding (z ∷ numbers) = fold (λ held n. hull held (alone n)) (alone z) numbers

-- the interval of the numbers, where there are so many
abbrev pub of_values : Values → ℕ → Interval
of_values Boolean count = truths
of_values (Range low) count = interval low (low +ℤ pos (count - 1))
of_values (Table numbers) count = holding numbers

-- the interval of a variable that may be missing
abbrev pub of_variable : Option FlatVar → Interval
of_variable None = alone (pos 0)
of_variable (Some var) = of_values var.values var.count

-- the interval of an operand
abbrev pub interval_at : List Interval → ℕ → Interval
interval_at intervals a = slice_index_or intervals a (alone (pos 0))

-- the interval of a node from those of the nodes before it
abbrev pub node_interval : List FlatVar → List Interval → FlatNode → Interval
node_interval vars before (Const z) = alone z
node_interval vars before (Now v) = of_variable (slice_get vars v)
node_interval vars before (After v) = of_variable (slice_get vars v)
node_interval vars before (Add a b) = sum (interval_at before a) (interval_at before b)
node_interval vars before (Sub a b) = difference (interval_at before a) (interval_at before b)
node_interval vars before (Mul a b) = product (interval_at before a) (interval_at before b)
node_interval vars before (Mod a b) = remainder (interval_at before b)
node_interval vars before (Choose c a b) = hull (interval_at before a) (interval_at before b)
node_interval vars before _ = truths

-- the intervals of all nodes
abbrev pub intervals : List FlatVar → List FlatNode → List Interval
intervals vars nodes = attributes (node_interval vars) nodes
