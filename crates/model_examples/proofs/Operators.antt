-- The operators on values: a truth table for each on truth values, and small numbers for the others.
use Rattle.std.proofs.Common.{◌≡◌, ℕ, Bool, true, false, List, [], ◌∷◌, Option, Some, None, refl}
use Rattle.std.specs.Prelude.{ℤ, pos, negsuc, codes}
use Rattle.smv_ast.specs.declared.syntax.Op.{Op}
use Rattle.smv_ast.specs.declared.syntax.Op.TheVariants as op
use Rattle.smv_ast.specs.declared.syntax.Expr.{Expr-F}
use Rattle.smv_ast.specs.declared.syntax.Choice.{Choice-F}
use Rattle.smv_ast.specs.IgnoringSpans.{no_span}
use Rattle.smv_meaning.specs.declared.value.Value.{Value}
use Rattle.smv_meaning.specs.declared.value.Value.TheVariants.{Boolean, Number, Symbol}
use Rattle.smv_meaning.specs.Value.{operate, negated, logical_not}
use Rattle.smv_meaning.specs.Denotations.{Environment, Denotation, BranchDenotation, Allowed, expr_denotation, choice_denotation}

-- the results on TRUE and TRUE, TRUE and FALSE, FALSE and TRUE, FALSE and FALSE
abbrev table : Op → List (Option Value)
table o = operate o (Boolean true) (Boolean true) ∷ operate o (Boolean true) (Boolean false) ∷ operate o (Boolean false) (Boolean true) ∷ operate o (Boolean false) (Boolean false) ∷ []

abbrev row : Bool → Bool → Bool → Bool → List (Option Value)
row a b c d = Some (Boolean a) ∷ Some (Boolean b) ∷ Some (Boolean c) ∷ Some (Boolean d) ∷ []

and_table : table op.And ≡ row true false false false
and_table = refl

or_table : table op.Or ≡ row true true true false
or_table = refl

xor_table : table op.Xor ≡ row false true true false
xor_table = refl

xnor_table : table op.Xnor ≡ row true false false true
xnor_table = refl

iff_table : table op.Iff ≡ row true false false true
iff_table = refl

implies_table : table op.Implies ≡ row true false true true
implies_table = refl

eq_table : table op.Eq ≡ row true false false true
eq_table = refl

ne_table : table op.Ne ≡ row false true true false
ne_table = refl

-- truth values have no sum and no order
sum_of_truths : table op.Add ≡ None ∷ None ∷ None ∷ None ∷ []
sum_of_truths = refl

order_of_truths : table op.Le ≡ None ∷ None ∷ None ∷ None ∷ []
order_of_truths = refl

-- ---- numbers

-- the result on two numbers
abbrev at : Op → ℤ → ℤ → Option Value
at o m n = operate o (Number m) (Number n)

abbrev number : ℤ → Option Value
number n = Some (Number n)

sum : at op.Add (pos 7) (negsuc 2) ≡ number (pos 4)
sum = refl

difference : at op.Sub (pos 3) (pos 7) ≡ number (negsuc 3)
difference = refl

product : at op.Mul (negsuc 2) (pos 4) ≡ number (negsuc 11)
product = refl

-- `7 mod 3`, `6 mod 3`, and none for `-1 mod 3`, `1 mod 0`, `1 mod -1`
remainder : at op.Mod (pos 7) (pos 3) ≡ number (pos 1)
remainder = refl

no_remainder : at op.Mod (pos 6) (pos 3) ≡ number (pos 0)
no_remainder = refl

remainder_of_negative : at op.Mod (negsuc 0) (pos 3) ≡ None
remainder_of_negative = refl

remainder_by_zero : at op.Mod (pos 1) (pos 0) ≡ None
remainder_by_zero = refl

remainder_by_negative : at op.Mod (pos 1) (negsuc 0) ≡ None
remainder_by_negative = refl

-- the results on 2 and 3, 3 and 3, 3 and 2
abbrev order : Op → List (Option Value)
order o = at o (pos 2) (pos 3) ∷ at o (pos 3) (pos 3) ∷ at o (pos 3) (pos 2) ∷ []

abbrev three : Bool → Bool → Bool → List (Option Value)
three a b c = Some (Boolean a) ∷ Some (Boolean b) ∷ Some (Boolean c) ∷ []

less : order op.Lt ≡ three true false false
less = refl

greater : order op.Gt ≡ three false false true
greater = refl

at_most : order op.Le ≡ three true true false
at_most = refl

at_least : order op.Ge ≡ three false true true
at_least = refl

equal : order op.Eq ≡ three false true false
equal = refl

unequal : order op.Ne ≡ three true false true
unequal = refl

below_zero : at op.Lt (negsuc 4) (negsuc 2) ≡ Some (Boolean true)
below_zero = refl

opposite : negated (Number (pos 5)) ≡ number (negsuc 4)
opposite = refl

-- ---- 0 and 1 as truth values, and symbols

one_equals_true : operate op.Eq (Number (pos 1)) (Boolean true) ≡ Some (Boolean true)
one_equals_true = refl

false_equals_zero : operate op.Eq (Boolean false) (Number (pos 0)) ≡ Some (Boolean true)
false_equals_zero = refl

two_equals_no_truth : operate op.Eq (Number (pos 2)) (Boolean true) ≡ Some (Boolean false)
two_equals_no_truth = refl

one_and_zero : operate op.And (Number (pos 1)) (Number (pos 0)) ≡ Some (Boolean false)
one_and_zero = refl

two_is_no_truth : operate op.And (Number (pos 2)) (Boolean true) ≡ None
two_is_no_truth = refl

opposite_of_zero : logical_not (Number (pos 0)) ≡ Some (Boolean true)
opposite_of_zero = refl

same_symbols : operate op.Eq (Symbol (codes "up")) (Symbol (codes "up")) ≡ Some (Boolean true)
same_symbols = refl

other_symbols : operate op.Ne (Symbol (codes "up")) (Symbol (codes "down")) ≡ Some (Boolean true)
other_symbols = refl

symbol_is_no_truth : operate op.Or (Symbol (codes "up")) (Boolean true) ≡ None
symbol_is_no_truth = refl

-- ---- expressions, layer by layer, where each name has one number now and another after the step

abbrev each : ℤ → Environment
each n path = Some (Number n)

-- the value where each name is 3 now and 5 after the step
abbrev value_of : Denotation → Option Value
value_of e = e.value (each (pos 3)) (each (pos 5))

abbrev x : Denotation
x = expr_denotation (Expr-F.Name (record { names = codes "x" ∷ []; at = no_span }))

abbrev numeral : ℕ → Denotation
numeral k = expr_denotation (Expr-F.Number k)

abbrev binary : Op → Denotation → Denotation → Denotation
binary o a b = expr_denotation (Expr-F.Binary o a b)

abbrev next : Denotation → Denotation
next a = expr_denotation (Expr-F.Next a)

abbrev branch : Denotation → Denotation → BranchDenotation
branch cond value = record { cond = cond; value = value }

abbrev either : List Denotation → Allowed
either parts = choice_denotation (Choice-F.Each parts)

abbrev from_to : ℤ → ℤ → Allowed
from_to low high = choice_denotation (Choice-F.Between low high)

-- `x in {1, 3}`, `x in {1, 4}`, `x in 2..4`, `x in 4..6`
in_set : value_of (expr_denotation (Expr-F.Within x (either (numeral 1 ∷ numeral 3 ∷ [])))) ≡ Some (Boolean true)
in_set = refl

not_in_set : value_of (expr_denotation (Expr-F.Within x (either (numeral 1 ∷ numeral 4 ∷ [])))) ≡ Some (Boolean false)
not_in_set = refl

in_interval : value_of (expr_denotation (Expr-F.Within x (from_to (pos 2) (pos 4)))) ≡ Some (Boolean true)
in_interval = refl

not_in_interval : value_of (expr_denotation (Expr-F.Within x (from_to (pos 4) (pos 6)))) ≡ Some (Boolean false)
not_in_interval = refl

-- `next(x) - x`, `next(x in 4..6)`, `-next(x)`
step : value_of (binary op.Sub (next x) x) ≡ Some (Number (pos 2))
step = refl

next_of_whole : value_of (next (expr_denotation (Expr-F.Within x (from_to (pos 4) (pos 6))))) ≡ Some (Boolean true)
next_of_whole = refl

opposite_of_next : value_of (expr_denotation (Expr-F.Neg (next x))) ≡ Some (Number (negsuc 4))
opposite_of_next = refl

-- `case x = 1 : 10; x = 3 : 20; TRUE : 30; esac`
middle_branch : value_of (expr_denotation (Expr-F.Cases (branch (binary op.Eq x (numeral 1)) (numeral 10) ∷ branch (binary op.Eq x (numeral 3)) (numeral 20) ∷ branch (expr_denotation Expr-F.True) (numeral 30) ∷ []))) ≡ Some (Number (pos 20))
middle_branch = refl

-- a choice has no value
no_value : value_of (expr_denotation (Expr-F.Pick (either (numeral 1 ∷ [])))) ≡ None
no_value = refl
