-- The definitions at small examples, worked out by hand.
use Rattle.std.proofs.Common.{◌≡◌, ℕ, true, false, List, [], ◌∷◌, refl, ℤ, pos, None}
use Rattle.std.specs.Prelude.{negsuc, ◌-◌, ◌+◌, ◌==◌, nat_le, nat_lt, if◌then◌else◌}
use Rattle.flat_model.specs.declared.nodes.FlatNode.{FlatNode}
use Rattle.flat_model.specs.declared.nodes.FlatNode.TheVariants.{Const, Now, After, Not, And, Or, Xor, Eq, Lt, Le, Add, Sub, Mul, Mod, Choose}
use Rattle.flat_model.specs.declared.variables.Values.{Values}
use Rattle.flat_model.specs.declared.variables.Values.TheVariants.{Boolean, Range, Table}
use Rattle.flat_model.specs.declared.variables.FlatVar.{FlatVar}
use Rattle.flat_model.specs.Variables.{numbers_of}
use Rattle.flat_model.specs.Nodes.{booleans, reads, is_after}
use Rattle.flat_model.specs.Evaluation.{node_value, values_at}
use Rattle.flat_model.specs.Intervals.{interval, hull, sum, difference, product, remainder, holding, intervals}
use Rattle.flat_model.specs.Products.{feature_bit, has_feature}
use Rattle.flat_model.specs.Machines.{Machine, is_path, is_run, violates, keeps_before_last}

-- the negative number -n, for n from 1 on
abbrev minus : ℕ → ℤ
minus n = negsuc (n - 1)

abbrev variable : Values → ℕ → FlatVar
variable values count = record { path = []; values = values; count = count; owner = None }

-- `boolean`, `-3..2`, `{7, -4, 0}` and the one value 9
abbrev vars : List FlatVar
vars = variable Boolean 2 ∷ variable (Range (minus 3)) 6 ∷ variable (Table (pos 7 ∷ minus 4 ∷ pos 0 ∷ [])) 3 ∷ variable (Table (pos 9 ∷ [])) 1 ∷ []

-- ---- Numbers of variables

range_numbers : numbers_of (variable (Range (minus 3)) 6) ≡ minus 3 ∷ minus 2 ∷ minus 1 ∷ pos 0 ∷ pos 1 ∷ pos 2 ∷ []
range_numbers = refl

boolean_numbers : numbers_of (variable Boolean 2) ≡ pos 0 ∷ pos 1 ∷ []
boolean_numbers = refl

-- at the positions 1, 0, 2, 0 now and 0, 5, 1, 0 after: TRUE, -3, 0, 9 and then FALSE, 2, -4, 9
now_and_after : values_at vars (Now 0 ∷ Now 1 ∷ Now 2 ∷ Now 3 ∷ After 0 ∷ After 1 ∷ After 2 ∷ After 3 ∷ []) (1 ∷ 0 ∷ 2 ∷ 0 ∷ []) (0 ∷ 5 ∷ 1 ∷ 0 ∷ [])
    ≡ pos 1 ∷ minus 3 ∷ pos 0 ∷ pos 9 ∷ pos 0 ∷ pos 2 ∷ minus 4 ∷ pos 9 ∷ []
now_and_after = refl

-- a node reads the nodes before it: -5, then -3 - (-5) = 2, then 2 * 2 = 4, then 4 < -5, which is false
one_after_another : values_at vars (Const (minus 5) ∷ Now 1 ∷ Sub 1 0 ∷ Mul 2 2 ∷ Lt 3 0 ∷ []) (1 ∷ 0 ∷ 2 ∷ 0 ∷ []) (0 ∷ 5 ∷ 1 ∷ 0 ∷ [])
    ≡ minus 5 ∷ minus 3 ∷ pos 2 ∷ pos 4 ∷ pos 0 ∷ []
one_after_another = refl

-- no features, one variable of `0..3`, and 2, x, x < 2: in the second state it is true, in the last it is not
below_two : values_at (variable (Range (pos 0)) 4 ∷ []) (Const (pos 2) ∷ Now 0 ∷ Lt 1 0 ∷ []) (1 ∷ []) (0 ∷ []) ≡ pos 2 ∷ pos 1 ∷ pos 1 ∷ []
below_two = refl

below_two_no_more : values_at (variable (Range (pos 0)) 4 ∷ []) (Const (pos 2) ∷ Now 0 ∷ Lt 1 0 ∷ []) (3 ∷ []) (0 ∷ []) ≡ pos 2 ∷ pos 3 ∷ pos 0 ∷ []
below_two_no_more = refl

-- ---- Operators

-- the value of a node whose operands have these values
abbrev of : FlatNode → List ℤ → ℤ
of node values = node_value (λ v. pos 0) (λ v. pos 0) values node

-- a logic operator at FALSE and FALSE, FALSE and TRUE, TRUE and FALSE, TRUE and TRUE
abbrev truth_table : (ℕ → ℕ → FlatNode) → List ℤ
truth_table node = of (node 0 0) truth ∷ of (node 0 1) truth ∷ of (node 1 0) truth ∷ of (node 1 1) truth ∷ []
  where
    truth : List ℤ
    truth = pos 0 ∷ pos 1 ∷ []

and_table : truth_table And ≡ pos 0 ∷ pos 0 ∷ pos 0 ∷ pos 1 ∷ []
and_table = refl

or_table : truth_table Or ≡ pos 0 ∷ pos 1 ∷ pos 1 ∷ pos 1 ∷ []
or_table = refl

xor_table : truth_table Xor ≡ pos 0 ∷ pos 1 ∷ pos 1 ∷ pos 0 ∷ []
xor_table = refl

eq_table : truth_table Eq ≡ pos 1 ∷ pos 0 ∷ pos 0 ∷ pos 1 ∷ []
eq_table = refl

not_false : of (Not 0) (pos 0 ∷ []) ≡ pos 1
not_false = refl

not_true : of (Not 0) (pos 1 ∷ []) ≡ pos 0
not_true = refl

-- a comparison at -2 and -1, -1 and -2, -1 and -1, -1 and 0, 0 and -1, 2 and 3
abbrev compared : FlatNode → List ℤ
compared node =
    of node (minus 2 ∷ minus 1 ∷ []) ∷ of node (minus 1 ∷ minus 2 ∷ []) ∷ of node (minus 1 ∷ minus 1 ∷ [])
    ∷ of node (minus 1 ∷ pos 0 ∷ []) ∷ of node (pos 0 ∷ minus 1 ∷ []) ∷ of node (pos 2 ∷ pos 3 ∷ []) ∷ []

lt_values : compared (Lt 0 1) ≡ pos 1 ∷ pos 0 ∷ pos 0 ∷ pos 1 ∷ pos 0 ∷ pos 1 ∷ []
lt_values = refl

le_values : compared (Le 0 1) ≡ pos 1 ∷ pos 0 ∷ pos 1 ∷ pos 1 ∷ pos 0 ∷ pos 1 ∷ []
le_values = refl

eq_values : compared (Eq 0 1) ≡ pos 0 ∷ pos 0 ∷ pos 1 ∷ pos 0 ∷ pos 0 ∷ pos 0 ∷ []
eq_values = refl

-- 2 - -5 = 7 and -5 - 2 = -7
sub_values : of (Sub 0 1) (pos 2 ∷ minus 5 ∷ []) ∷ of (Sub 1 0) (pos 2 ∷ minus 5 ∷ []) ∷ [] ≡ pos 7 ∷ minus 7 ∷ []
sub_values = refl

-- 2 + -5 = -3 and -2 + -5 = -7
add_values : of (Add 0 1) (pos 2 ∷ minus 5 ∷ []) ∷ of (Add 0 1) (minus 2 ∷ minus 5 ∷ []) ∷ [] ≡ minus 3 ∷ minus 7 ∷ []
add_values = refl

-- -3 * -4 = 12, 3 * -4 = -12 and -3 * 0 = 0
mul_values : of (Mul 0 1) (minus 3 ∷ minus 4 ∷ []) ∷ of (Mul 0 1) (pos 3 ∷ minus 4 ∷ []) ∷ of (Mul 0 1) (minus 3 ∷ pos 0 ∷ []) ∷ [] ≡ pos 12 ∷ minus 12 ∷ pos 0 ∷ []
mul_values = refl

-- 7 mod 3 = 1, 6 mod 3 = 0, 2 mod 3 = 2 and 7 mod 1 = 0
mod_values : of (Mod 0 1) (pos 7 ∷ pos 3 ∷ []) ∷ of (Mod 0 1) (pos 6 ∷ pos 3 ∷ []) ∷ of (Mod 0 1) (pos 2 ∷ pos 3 ∷ []) ∷ of (Mod 0 1) (pos 7 ∷ pos 1 ∷ []) ∷ []
    ≡ pos 1 ∷ pos 0 ∷ pos 2 ∷ pos 0 ∷ []
mod_values = refl

-- the first branch where the condition is true, else the second
choose_values : of (Choose 0 1 2) (pos 1 ∷ minus 8 ∷ pos 5 ∷ []) ∷ of (Choose 0 1 2) (pos 0 ∷ minus 8 ∷ pos 5 ∷ []) ∷ [] ≡ minus 8 ∷ pos 5 ∷ []
choose_values = refl

-- ---- Intervals

sum_interval : sum (interval (minus 2) (pos 3)) (interval (pos 4) (pos 5)) ≡ interval (pos 2) (pos 8)
sum_interval = refl

-- from -2 - 5 to 3 - 4
difference_interval : difference (interval (minus 2) (pos 3)) (interval (pos 4) (pos 5)) ≡ interval (minus 7) (minus 1)
difference_interval = refl

-- the products of the ends are 10, -8, -15 and 12
product_interval : product (interval (minus 2) (pos 3)) (interval (minus 5) (pos 4)) ≡ interval (minus 15) (pos 12)
product_interval = refl

-- both below zero: from 2 * 5 to 3 * 7
negative_product : product (interval (minus 3) (minus 2)) (interval (minus 7) (minus 5)) ≡ interval (pos 10) (pos 21)
negative_product = refl

remainder_interval : remainder (interval (pos 2) (pos 5)) ≡ interval (pos 0) (pos 4)
remainder_interval = refl

hull_interval : hull (interval (minus 2) (pos 3)) (interval (pos 5) (pos 6)) ≡ interval (minus 2) (pos 6)
hull_interval = refl

holding_interval : holding (pos 7 ∷ minus 4 ∷ pos 0 ∷ []) ≡ interval (minus 4) (pos 7)
holding_interval = refl

-- the variables, then a truth value, a choice between -3..2 and -4..7, a sum of both, and a remainder by 9
node_intervals : intervals vars (Now 0 ∷ Now 1 ∷ After 2 ∷ Now 3 ∷ Lt 1 2 ∷ Choose 0 1 2 ∷ Add 1 2 ∷ Mod 1 3 ∷ Const (minus 6) ∷ [])
    ≡ interval (pos 0) (pos 1) ∷ interval (minus 3) (pos 2) ∷ interval (minus 4) (pos 7) ∷ interval (pos 9) (pos 9) ∷ interval (pos 0) (pos 1)
    ∷ interval (minus 4) (pos 7) ∷ interval (minus 7) (pos 9) ∷ interval (pos 0) (pos 8) ∷ interval (minus 6) (minus 6) ∷ []
node_intervals = refl

-- ---- Boolean nodes

-- 0 and 1 are, 2 is not; a Boolean variable is, and one of `0..1` is not
leaf_booleans : booleans (variable Boolean 2 ∷ variable (Range (pos 0)) 2 ∷ []) (Const (pos 0) ∷ Const (pos 1) ∷ Const (pos 2) ∷ Const (minus 1) ∷ Now 0 ∷ After 0 ∷ Now 1 ∷ After 1 ∷ Now 2 ∷ [])
    ≡ true ∷ true ∷ false ∷ false ∷ true ∷ true ∷ false ∷ false ∷ false ∷ []
leaf_booleans = refl

-- logic and comparisons are, arithmetic is not
operator_booleans : booleans [] (Const (pos 1) ∷ Not 0 ∷ And 0 0 ∷ Or 0 0 ∷ Xor 0 0 ∷ Eq 0 0 ∷ Lt 0 0 ∷ Le 0 0 ∷ Add 0 0 ∷ Sub 0 0 ∷ Mul 0 0 ∷ Mod 0 0 ∷ [])
    ≡ true ∷ true ∷ true ∷ true ∷ true ∷ true ∷ true ∷ true ∷ false ∷ false ∷ false ∷ false ∷ []
operator_booleans = refl

-- a choice is where both of its values are
choice_booleans : booleans [] (Const (pos 1) ∷ Const (pos 2) ∷ Choose 0 0 0 ∷ Choose 0 0 1 ∷ Choose 0 1 0 ∷ Choose 0 2 2 ∷ [])
    ≡ true ∷ false ∷ true ∷ false ∷ false ∷ true ∷ []
choice_booleans = refl

-- ---- Nodes that read a next state, by themselves or through others

reading_next : reads is_after (Now 0 ∷ After 0 ∷ Eq 0 0 ∷ Eq 0 1 ∷ Not 3 ∷ Choose 2 0 4 ∷ Choose 2 0 0 ∷ Const (pos 1) ∷ [])
    ≡ false ∷ true ∷ false ∷ true ∷ true ∷ true ∷ false ∷ false ∷ []
reading_next = refl

-- ---- Products

-- 5 has the features 0 and 2
bits_of_five : feature_bit 5 0 ∷ feature_bit 5 1 ∷ feature_bit 5 2 ∷ feature_bit 5 3 ∷ [] ≡ 1 ∷ 0 ∷ 1 ∷ 0 ∷ []
bits_of_five = refl

features_of_five : has_feature 5 0 ∷ has_feature 5 1 ∷ has_feature 5 2 ∷ [] ≡ true ∷ false ∷ true ∷ []
features_of_five = refl

-- ---- Runs of a counter that begins at 0, counts up to 3 in product 1 and to 2 in any other, and is to stay below 3

abbrev counter : Machine ℕ
counter = record {
  init = λ product s. s == 0;
  inside = λ product s. nat_le s (greatest product);
  step = λ product s t. t == s + 1;
  invariant = λ product s. nat_lt s 3;
}
  where
    greatest : ℕ → ℕ
    greatest product = if product == 1 then 3 else 2

counts_to_three : violates counter 1 (0 ∷ 1 ∷ 2 ∷ 3 ∷ []) ≡ true
counts_to_three = refl

-- 3 is not inside in another product
stays_inside : violates counter 2 (0 ∷ 1 ∷ 2 ∷ 3 ∷ []) ≡ false
stays_inside = refl

-- a run that keeps the invariant at its end violates nothing
no_violation_yet : violates counter 1 (0 ∷ 1 ∷ 2 ∷ []) ≡ false
no_violation_yet = refl

-- it has to begin at 0
wrong_first : violates counter 1 (2 ∷ 3 ∷ []) ≡ false
wrong_first = refl

-- and to count one by one
wrong_step : violates counter 1 (0 ∷ 3 ∷ []) ≡ false
wrong_step = refl

no_states : violates counter 1 [] ≡ false
no_states = refl

-- 2, 3 is a path and no run, and keeps the invariant before its last state; 3, 4 does not keep it
path_of_two : is_path counter 1 2 (3 ∷ []) ≡ true
path_of_two = refl

no_run_of_two : is_run counter 1 (2 ∷ 3 ∷ []) ≡ false
no_run_of_two = refl

kept_before_last : keeps_before_last counter 1 2 (3 ∷ []) ≡ true
kept_before_last = refl

not_kept_before_last : keeps_before_last counter 1 3 (4 ∷ []) ≡ false
not_kept_before_last = refl
