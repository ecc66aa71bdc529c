-- Sorts: kinds, and the intervals of numbers. A name on a cycle has no sort.
use Rattle.std.specs.Prelude.{Bool, true, false, ◌&&◌, ℤ, pos, int_le, int_lt, Option, Some, None}
use Rattle.smv_ast.specs.declared.syntax.Op.{Op}
use Rattle.smv_ast.specs.declared.syntax.Op.TheVariants as op
use Rattle.smv_ast.specs.declared.syntax.SmvType.{SmvType}
use Rattle.smv_ast.specs.declared.syntax.SmvType.TheVariants as type
use Rattle.smv_meaning.specs.Value.{and_then, of_both}
use Rattle.smv_kinds.specs.declared.intervals.Interval.{Interval}
use Rattle.smv_kinds.specs.declared.sorts.Sort.{Sort}
use Rattle.smv_kinds.specs.declared.sorts.Sort.TheVariants.{Boolean, Number, Symbol, Alias, Nothing}
use Rattle.smv_kinds.specs.Intervals.{between, alone, is_narrow, hull, sum, difference, product, remainder, opposite, holding}

-- whether the kind is Boolean
abbrev pub is_boolean : Option Sort → Bool
is_boolean (Some Boolean) = true
is_boolean s = false

-- whether the kind is Number
abbrev pub is_number : Option Sort → Bool
is_number (Some (Number interval)) = true
is_number s = false

-- whether a sort has a kind: an instance has none; a definition of one has a kind of its own, which
-- no rule accepts
abbrev pub has_kind : Option Sort → Bool
has_kind None = false
has_kind (Some Nothing) = false
has_kind (Some s) = true

-- whether an interval is within the limit of magnitude; true of any other sort
abbrev pub is_small : Option Sort → Bool
is_small (Some (Number interval)) = is_narrow interval
is_small s = true

-- whether two sorts have the same kind
abbrev pub is_same_kind : Option Sort → Option Sort → Bool
is_same_kind (Some Boolean) (Some Boolean) = true
is_same_kind (Some (Number i)) (Some (Number j)) = true
is_same_kind (Some Symbol) (Some Symbol) = true
is_same_kind s t = false

-- the interval of a number; that of 0 for any other sort, which breaks the rules of kinds
abbrev pub interval_of : Sort → Interval
interval_of (Number interval) = interval
interval_of s = alone (pos 0)

-- the sort of one of two values: Boolean where one of them is, a number of the least interval that
-- contains both, else the first
abbrev pub join : Sort → Sort → Sort
join Boolean t = Boolean
join s Boolean = Boolean
join (Number i) (Number j) = Number (hull i j)
join s t = s

-- the sort of one of two values, if both sorts are known
abbrev pub join_both : Option Sort → Option Sort → Option Sort
join_both s t = of_both (λ a b. Some (join a b)) s t

-- the result sort of an operator: a number for arithmetic, a truth value for every other operator
abbrev pub result_sort : Op → Sort → Sort → Sort
result_sort op.Add s t = Number (sum (interval_of s) (interval_of t))
result_sort op.Sub s t = Number (difference (interval_of s) (interval_of t))
result_sort op.Mul s t = Number (product (interval_of s) (interval_of t))
result_sort op.Mod s t = Number (remainder (interval_of t))
result_sort o s t = Boolean

-- the result sort of an operator, if both sorts are known
abbrev pub binary_sort : Op → Option Sort → Option Sort → Option Sort
binary_sort o s t = of_both (λ a b. Some (result_sort o a b)) s t

-- Boolean, if the sort is known
abbrev pub truth_sort : Option Sort → Option Sort
truth_sort s = and_then s (λ a. Some Boolean)

-- the second sort, if both are known
abbrev pub if_known : Option Sort → Option Sort → Option Sort
if_known s t = and_then s (λ a. t)

-- the sort of a number with the opposite sign
abbrev pub negated : Sort → Sort
negated s = Number (opposite (interval_of s))

-- the sort of a number with the opposite sign, if the sort is known
abbrev pub negated_sort : Option Sort → Option Sort
negated_sort s = and_then s (λ a. Some (negated a))

-- the sort of the numbers from low to high
abbrev pub interval_sort : ℤ → ℤ → Sort
interval_sort low high = Number (between low high)

-- the sort of a definition with a right side of this sort: a path to an instance makes it an alias
abbrev pub defined_sort : Option Sort → Option Sort
defined_sort (Some Nothing) = Some Alias
defined_sort s = s

-- the sort of the values of a type
abbrev pub type_sort : SmvType → Sort
type_sort type.Boolean = Boolean
type_sort (type.Range low high) = interval_sort low high
type_sort (type.Numbers numbers) = Number (holding numbers)
type_sort (type.Symbols names) = Symbol

-- whether the interval of a dividend starts at 0 or above, and that of a divisor above 0
abbrev pub divides : Option Sort → Option Sort → Bool
divides (Some (Number a)) (Some (Number b)) = int_le (pos 0) a.low
    && int_lt (pos 0) b.low
divides s t = false
