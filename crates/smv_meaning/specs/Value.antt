-- Values, the values of a type, and operators on values.
use Rattle.std.specs.Prelude.{ℕ, zero, suc, ◌^◌, ◌%◌, Bool, true, false, not, ◌&&◌, ◌||◌, if◌then◌else◌, List, [], ◌∷◌, map, ℤ, pos, negsuc, ◌+ℤ◌, ◌-ℤ◌, ◌*ℤ◌, neg_ℤ, int_lt, int_le, nat_lt, Option, Some, None, slice_get}
use Rattle.std.specs.Str.{bytes_eq}
use Rattle.smv_ast.specs.declared.syntax.SmvType.{SmvType}
use Rattle.smv_ast.specs.declared.syntax.SmvType.TheVariants as type
use Rattle.smv_ast.specs.declared.syntax.Op.{Op}
use Rattle.smv_ast.specs.declared.syntax.Op.TheVariants as op
use Rattle.smv_meaning.specs.declared.value.Value.{Value}
use Rattle.smv_meaning.specs.declared.value.Value.TheVariants.{Boolean, Number, Symbol}

-- a name, as its bytes
abbrev pub Name : Type 0
Name = List ℕ

-- the continuation of a value, where there is one
abbrev pub and_then : {A B : Type 0} → Option A → (A → Option B) → Option B
and_then None transfer = None
and_then (Some a) transfer = transfer a

-- a function of two values, where there are both
abbrev pub of_both : {A B C : Type 0} → (A → B → Option C) → Option A → Option B → Option C
of_both transfer a b = and_then a (λ x. and_then b (transfer x))

-- ---- types

-- so many numbers, upwards from the first
abbrev pub up_from : ℤ → ℕ → List Value
up_from low zero = []
up_from low (suc more) = Number low ∷ up_from (low +ℤ pos 1) more

-- the count of numbers from the first up to the last, by their difference
abbrev pub count_to : ℤ → ℕ
count_to (pos n) = suc n
count_to (negsuc n) = 0

-- the numbers from `low` up to `high`, both counted
abbrev pub between : ℤ → ℤ → List Value
between low high = up_from low (count_to (high -ℤ low))

-- the values of a type in order: FALSE before TRUE, numbers upwards, an enumeration in text order
abbrev pub all_values : SmvType → List Value
all_values type.Boolean = Boolean false ∷ Boolean true ∷ []
all_values (type.Range low high) = between low high
all_values (type.Numbers numbers) = map Number numbers
all_values (type.Symbols names) = map Symbol names

-- the first value of a type
abbrev pub first_value : SmvType → Option Value
first_value t = slice_get (all_values t) 0

-- ---- values

-- the truth value of a value; 0 and 1 are read as FALSE and TRUE
abbrev pub truth : Value → Option Bool
truth (Boolean b) = Some b
truth (Number (pos zero)) = Some false
truth (Number (pos (suc zero))) = Some true
truth v = None

-- whether two truth values are equal
abbrev pub bool_eq : Bool → Bool → Bool
bool_eq true b = b
bool_eq false b = not b

-- whether two numbers are equal
abbrev pub int_eq : ℤ → ℤ → Bool
int_eq m n = int_le m n && int_le n m

-- whether a truth value is defined and this one
abbrev pub is_truth : Bool → Option Bool → Bool
is_truth b None = false
is_truth b (Some c) = bool_eq b c

-- whether two values are equal; compared with a truth value, 0 and 1 are truth values
abbrev pub same : Value → Value → Bool
same (Boolean b) w = is_truth b (truth w)
same (Number m) (Number n) = int_eq m n
same (Symbol a) (Symbol b) = bytes_eq a b
same v (Boolean c) = is_truth c (truth v)
same v w = false

-- whether a value is defined and this one
abbrev pub is_same : Value → Option Value → Bool
is_same v None = false
is_same v (Some w) = same v w

-- whether a value is defined and TRUE
abbrev pub is_true : Option Value → Bool
is_true v = is_truth true (and_then v truth)

-- whether a value is one of the numbers from low to high
abbrev pub in_range : ℤ → ℤ → Value → Bool
in_range low high (Number n) = int_le low n && int_le n high
in_range low high v = false

-- ---- operators

-- whether 64 bits represent a number; the numbers of a checked model stay far within
abbrev pub fits : ℤ → Bool
fits (pos n) = nat_lt n (2 ^ 63)
fits (negsuc n) = nat_lt n (2 ^ 63)

-- a number as a value; none where 64 bits do not represent it
abbrev pub whole : ℤ → Option Value
whole n = if fits n then Some (Number n) else None

-- the remainder of a number that is at least 0 by one above 0; none at other numbers
abbrev pub remainder : ℤ → ℤ → Option Value
remainder (pos m) (pos (suc n)) = Some (Number (pos (m % suc n)))
remainder m n = None

-- the result of an operator on two numbers
abbrev pub of_numbers : Op → ℤ → ℤ → Option Value
of_numbers op.Add m n = whole (m +ℤ n)
of_numbers op.Sub m n = whole (m -ℤ n)
of_numbers op.Mul m n = whole (m *ℤ n)
of_numbers op.Mod m n = remainder m n
of_numbers op.Lt m n = Some (Boolean (int_lt m n))
of_numbers op.Gt m n = Some (Boolean (int_lt n m))
of_numbers op.Le m n = Some (Boolean (int_le m n))
of_numbers op.Ge m n = Some (Boolean (int_le n m))
of_numbers o m n = None

-- the result of an operator on two truth values
abbrev pub of_truths : Op → Bool → Bool → Option Value
of_truths op.And b c = Some (Boolean (b && c))
of_truths op.Or b c = Some (Boolean (b || c))
of_truths op.Xor b c = Some (Boolean (not (bool_eq b c)))
of_truths op.Xnor b c = Some (Boolean (bool_eq b c))
of_truths op.Iff b c = Some (Boolean (bool_eq b c))
of_truths op.Implies b c = Some (Boolean (not b || c))
of_truths o b c = None

-- an operator on numbers, applied to two values
abbrev pub on_numbers : Op → Value → Value → Option Value
on_numbers o (Number m) (Number n) = of_numbers o m n
on_numbers o v w = None

-- an operator on truth values, applied to two values
abbrev pub on_truths : Op → Value → Value → Option Value
on_truths o v w = of_both (of_truths o) (truth v) (truth w)

-- the result of an operator on two values
abbrev pub operate : Op → Value → Value → Option Value
operate op.Eq v w = Some (Boolean (same v w))
operate op.Ne v w = Some (Boolean (not (same v w)))
operate op.And v w = on_truths op.And v w
operate op.Or v w = on_truths op.Or v w
operate op.Xor v w = on_truths op.Xor v w
operate op.Xnor v w = on_truths op.Xnor v w
operate op.Iff v w = on_truths op.Iff v w
operate op.Implies v w = on_truths op.Implies v w
operate o v w = on_numbers o v w

-- the number with the opposite sign
abbrev pub negated : Value → Option Value
negated (Number n) = whole (neg_ℤ n)
negated v = None

-- the opposite truth value
abbrev pub logical_not : Value → Option Value
logical_not v = and_then (truth v) (λ b. Some (Boolean (not b)))
