-- The definitions, evaluated on small examples.
use Rattle.std.proofs.Common.{◌≡◌, ℕ, true, false, [], ◌∷◌, Some, refl}
use Rattle.std.specs.Prelude.{ℤ, pos, negsuc}
use Rattle.smv_ast.specs.declared.syntax.Op.TheVariants as op
use Rattle.smv_ast.specs.declared.syntax.SmvType.TheVariants as type
use Rattle.smv_kinds.specs.declared.intervals.Interval.{Interval}
use Rattle.smv_kinds.specs.declared.sorts.Sort.{Sort}
use Rattle.smv_kinds.specs.declared.sorts.Sort.TheVariants.{Boolean, Number, Symbol, Alias, Nothing}
use Rattle.smv_kinds.specs.declared.facts.Facts.{Facts}
use Rattle.smv_kinds.specs.Intervals.{is_within, saturated, hull, sum, product}
use Rattle.smv_kinds.specs.Sorts.{interval_sort, type_sort, defined_sort}
use Rattle.smv_kinds.specs.Facts.{truth_facts, number_facts, name_facts, negation_facts, not_facts, binary_facts, parts_facts, interval_facts, case_facts, within_parts, within_interval}

abbrev ends : ℤ → ℤ → Interval
ends low high = record { low = low; high = high }

-- a variable of `low..high`
abbrev range : ℤ → ℤ → Facts
range low high = name_facts (Some (interval_sort low high))

-- a name of this sort
abbrev name : Sort → Facts
name s = name_facts (Some s)

abbrev number : ℕ → Facts
number = number_facts

-- `2000000000 + 2000000000`
abbrev wide : Facts
wide = binary_facts op.Add (number 2000000000) (number 2000000000)

-- ---- intervals

-- `2..5 + 10..20`
sum_of_ranges : (binary_facts op.Add (range (pos 2) (pos 5)) (range (pos 10) (pos 20))).sort ≡ Some (Number (ends (pos 12) (pos 25)))
unfolding saturated
sum_of_ranges = refl

-- `2..5 - 10..20`
difference_of_ranges : (binary_facts op.Sub (range (pos 2) (pos 5)) (range (pos 10) (pos 20))).sort ≡ Some (Number (ends (negsuc 17) (negsuc 4)))
unfolding saturated
difference_of_ranges = refl

-- `-3..2 * -5..7`: the products of the ends are 15, -21, -10 and 14
product_of_ranges : (binary_facts op.Mul (range (negsuc 2) (pos 2)) (range (negsuc 4) (pos 7))).sort ≡ Some (Number (ends (negsuc 20) (pos 15)))
unfolding saturated hull
product_of_ranges = refl

-- `0..90 mod 1..4`
remainder_of_ranges : (binary_facts op.Mod (range (pos 0) (pos 90)) (range (pos 1) (pos 4))).sort ≡ Some (Number (ends (pos 0) (pos 3)))
unfolding saturated
remainder_of_ranges = refl

-- `-(2..5)`
opposite_of_range : (negation_facts (range (pos 2) (pos 5))).sort ≡ Some (Number (ends (negsuc 4) (negsuc 1)))
unfolding saturated
opposite_of_range = refl

-- `{5, 2, 9}`, as a type and as a set
numbers_of_type : type_sort (type.Numbers (pos 5 ∷ pos 2 ∷ pos 9 ∷ [])) ≡ Number (ends (pos 2) (pos 9))
unfolding saturated hull
numbers_of_type = refl

numbers_of_set : (parts_facts (number 5 ∷ number 2 ∷ number 9 ∷ [])).sort ≡ Some (Number (ends (pos 2) (pos 9)))
unfolding saturated hull
numbers_of_set = refl

-- ends saturate at 2 ^ 62, at both ends
saturated_sum : sum (ends (pos 1) (pos 4611686018427387904)) (ends (pos 2) (pos 1)) ≡ ends (pos 3) (pos 4611686018427387904)
unfolding saturated
saturated_sum = refl

saturated_product : product (ends (negsuc 4294967295) (pos 1)) (ends (pos 0) (pos 4294967296)) ≡ ends (negsuc 4611686018427387903) (pos 4294967296)
unfolding saturated hull
saturated_product = refl

-- ---- the limit of magnitude

-- `2147483646 + 1` and one more
greatest : (binary_facts op.Add (number 2147483646) (number 1)).small ≡ true
unfolding saturated is_within
greatest = refl

too_great : (binary_facts op.Add (number 2147483647) (number 1)).small ≡ false
unfolding saturated is_within
too_great = refl

-- `-2147483647` and one less
least : (negation_facts (number 2147483647)).small ≡ true
unfolding saturated is_within
least = refl

too_small : (binary_facts op.Sub (negation_facts (number 2147483647)) (number 1)).small ≡ false
unfolding saturated is_within
too_small = refl

-- a part that is too wide: the whole breaks the rule, a name of its interval does not
wide_part : (binary_facts op.Sub wide (number 2000000000)).small ≡ false
unfolding saturated is_within
wide_part = refl

narrow_whole : (binary_facts op.Sub wide (number 2000000000)).sort ≡ Some (Number (ends (pos 2000000000) (pos 2000000000)))
unfolding saturated
narrow_whole = refl

narrow_product : (binary_facts op.Mul wide (number 0)).sort ≡ Some (Number (ends (pos 0) (pos 0)))
unfolding saturated hull
narrow_product = refl

reads_narrow : (binary_facts op.Add (range (pos 0) (pos 0)) (number 1)).small ≡ true
unfolding saturated is_within
reads_narrow = refl

-- a name of an interval that is too wide breaks the rule
reads_wide : (range (pos 4000000000) (pos 4000000000)).small ≡ false
unfolding saturated is_within
reads_wide = refl

-- ---- kinds

-- `1 + 2`, and not `TRUE + 2`
adds_numbers : (binary_facts op.Add (number 1) (number 2)).kinds ≡ true
adds_numbers = refl

adds_no_truth : (binary_facts op.Add truth_facts (number 2)).kinds ≡ false
adds_no_truth = refl

-- `!1`, and neither `!2` nor `!x` for a variable of `0..1`
one_is_truth : (not_facts (number 1)).kinds ≡ true
one_is_truth = refl

two_is_no_truth : (not_facts (number 2)).kinds ≡ false
two_is_no_truth = refl

variable_is_no_truth : (not_facts (range (pos 0) (pos 1))).kinds ≡ false
variable_is_no_truth = refl

-- `TRUE = 1`, and neither `TRUE = 2` nor `a = 1` for a symbol
equals_one : (binary_facts op.Eq truth_facts (number 1)).kinds ≡ true
equals_one = refl

equals_no_two : (binary_facts op.Eq truth_facts (number 2)).kinds ≡ false
equals_no_two = refl

symbols_are_no_numbers : (binary_facts op.Ne (name Symbol) (number 1)).kinds ≡ false
symbols_are_no_numbers = refl

symbols_compare : (binary_facts op.Eq (name Symbol) (name Symbol)).kinds ≡ true
symbols_compare = refl

-- ---- choices

-- `{1, TRUE}` is Boolean; `{5, TRUE}` and `{1, a}` break the rule
boolean_set : (parts_facts (number 1 ∷ truth_facts ∷ [])).sort ≡ Some Boolean
boolean_set = refl

boolean_set_keeps : (parts_facts (number 1 ∷ truth_facts ∷ [])).kinds ≡ true
boolean_set_keeps = refl

mixed_set : (parts_facts (number 5 ∷ truth_facts ∷ [])).kinds ≡ false
mixed_set = refl

set_with_symbol : (parts_facts (number 1 ∷ name Symbol ∷ [])).kinds ≡ false
set_with_symbol = refl

-- `{0, 1}` fits Boolean, `0..1` does not
set_fits : (parts_facts (number 0 ∷ number 1 ∷ [])).fits ≡ true
set_fits = refl

interval_does_not_fit : (interval_facts (pos 0) (pos 1)).fits ≡ false
interval_does_not_fit = refl

-- `1 in {0, 5}`, and not `1 in {TRUE, 5}`; `x in 0..2` for a number, and not `TRUE in 0..1`
in_set : (within_parts (number 1) (number 0 ∷ number 5 ∷ [])).kinds ≡ true
in_set = refl

in_no_mixed_set : (within_parts (number 1) (truth_facts ∷ number 5 ∷ [])).kinds ≡ false
in_no_mixed_set = refl

in_interval : (within_interval (range (pos 0) (pos 9)) (pos 0) (pos 2)).kinds ≡ true
in_interval = refl

truth_in_no_interval : (within_interval truth_facts (pos 0) (pos 1)).kinds ≡ false
truth_in_no_interval = refl

-- `case TRUE : 1; 1 : 5; esac`; its last condition may not be 2
case_keeps : (case_facts (truth_facts ∷ number 1 ∷ []) (number 1 ∷ number 5 ∷ [])).kinds ≡ true
case_keeps = refl

last_condition : (case_facts (truth_facts ∷ number 2 ∷ []) (number 1 ∷ number 5 ∷ [])).kinds ≡ false
last_condition = refl

case_interval : (case_facts (truth_facts ∷ number 1 ∷ []) (number 1 ∷ number 5 ∷ [])).sort ≡ Some (Number (ends (pos 1) (pos 5)))
unfolding saturated hull
case_interval = refl

-- ---- `mod`

-- `0..9 mod 1..4`; a dividend may not be below 0, nor a divisor 0
divides_numbers : (binary_facts op.Mod (range (pos 0) (pos 9)) (range (pos 1) (pos 4))).mods ≡ true
unfolding saturated
divides_numbers = refl

negative_dividend : (binary_facts op.Mod (range (negsuc 0) (pos 9)) (range (pos 1) (pos 4))).mods ≡ false
unfolding saturated
negative_dividend = refl

divisor_of_nothing : (binary_facts op.Mod (range (pos 0) (pos 9)) (range (pos 0) (pos 4))).mods ≡ false
unfolding saturated
divisor_of_nothing = refl

-- ---- definitions of instances

-- a path to an instance is at fault, a definition of one is not where it is handed on
instance_read : (name Nothing).kinds ≡ false
instance_read = refl

alias_handed_on : (name Alias).kinds ≡ true
alias_handed_on = refl

defined_instance : defined_sort (Some Nothing) ≡ Some Alias
defined_instance = refl

defined_alias : defined_sort (Some Alias) ≡ Some Alias
defined_alias = refl

-- each rule refuses it: `d + 1`, `!d`, `d = d`, `{d}`, `d in {d}`
alias_added : (binary_facts op.Add (name Alias) (number 1)).kinds ≡ false
alias_added = refl

alias_as_truth : (not_facts (name Alias)).kinds ≡ false
alias_as_truth = refl

alias_compared : (binary_facts op.Eq (name Alias) (name Alias)).kinds ≡ false
alias_compared = refl

alias_in_set : (parts_facts (name Alias ∷ [])).kinds ≡ false
alias_in_set = refl

alias_in : (within_parts (name Alias) (name Alias ∷ [])).kinds ≡ false
alias_in = refl
