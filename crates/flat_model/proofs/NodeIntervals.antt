-- The value of a node lies in its interval where those of its operands do.
use Rattle.std.proofs.Common.{ℕ, zero, suc, Bool, true, false, cond, List, arith, ℤ, pos}
use Rattle.std.specs.Prelude.{negsuc, ◌+ℤ◌, ◌-ℤ◌, ◌≤ℤ◌, ◌<ℤ◌, int_rem, slice_get}
use Rattle.std.specs.List.{AllByRecursion}
use Rattle.std.proofs.lemmas.Int.{ints, clamps}
use Rattle.flat_model.specs.declared.nodes.FlatNode.{FlatNode}
use Rattle.flat_model.specs.declared.nodes.FlatNode.TheVariants.{Const, Now, After, Not, And, Or, Xor, Eq, Lt, Le, Add, Sub, Mul, Mod, Choose}
use Rattle.flat_model.specs.declared.variables.FlatVar.{FlatVar}
use Rattle.flat_model.specs.declared.intervals.Interval.{Interval}
use Rattle.flat_model.specs.Numbers.{number_of}
use Rattle.flat_model.specs.Nodes.{operands, variable_of}
use Rattle.flat_model.specs.Evaluation.{value_at, truth_at, node_value}
use Rattle.flat_model.specs.Intervals.{IsIn, truths, hull, sum, difference, remainder, alone, of_variable, interval_at, node_interval}
use Rattle.flat_model.specs.Soundness.{Divides}
use Rattle.flat_model.proofs.Products.{IsIn-product}

IsIn-alone : (z : ℤ) → IsIn (alone z) z
IsIn-alone z = record { above = omega (arith, ints); below = omega (arith, ints) }

IsIn-truths : (b : Bool) → IsIn truths (number_of b)
IsIn-truths true = record { above = omega (arith, ints); below = omega (arith, ints) }
IsIn-truths false = record { above = omega (arith, ints); below = omega (arith, ints) }

pub IsIn-sum : (a b : Interval) (x y : ℤ) → IsIn a x → IsIn b y → IsIn (sum a b) (x +ℤ y)
IsIn-sum a b x y h k = record { above = omega (arith, ints); below = omega (arith, ints) }

pub IsIn-difference : (a b : Interval) (x y : ℤ) → IsIn a x → IsIn b y → IsIn (difference a b) (x -ℤ y)
IsIn-difference a b x y h k = record { above = omega (arith, ints); below = omega (arith, ints) }

pub IsIn-remainder : (b : Interval) (x y : ℤ) → pos 0 ≤ℤ x → pos 0 <ℤ y → IsIn b y → IsIn (remainder b) (int_rem x y)
IsIn-remainder b (pos m) (pos (suc n)) g h k = record { above = omega (arith, ints); below = omega (arith, ints) }
IsIn-remainder b (pos m) (pos zero) g h k = absurd (omega (arith, ints))
IsIn-remainder b (pos m) (negsuc n) g h k = absurd (omega (arith, ints))
IsIn-remainder b (negsuc m) y g h k = absurd (omega (arith, ints))

pub IsIn-hull_left : (a b : Interval) (x : ℤ) → IsIn a x → IsIn (hull a b) x
IsIn-hull_left a b x h = record { above = omega (arith, ints, clamps); below = omega (arith, ints, clamps) }

pub IsIn-hull_right : (a b : Interval) (x : ℤ) → IsIn b x → IsIn (hull a b) x
IsIn-hull_right a b x h = record { above = omega (arith, ints, clamps); below = omega (arith, ints, clamps) }

IsIn-choice : (c : Bool) (a b : Interval) (x y : ℤ) → IsIn a x → IsIn b y → IsIn (hull a b) (cond c x y)
IsIn-choice true a b x y h k = IsIn-hull_left a b x h
IsIn-choice false a b x y h k = IsIn-hull_right a b y k

-- no dividend is below 0, and each divisor above 0, where their intervals say so
pub dividend_above : (a : Interval) (x : ℤ) → pos 0 ≤ℤ a.low → IsIn a x → pos 0 ≤ℤ x
dividend_above a x g h = omega (arith, ints)

pub divisor_above : (b : Interval) (y : ℤ) → pos 0 <ℤ b.low → IsIn b y → pos 0 <ℤ y
divisor_above b y g h = omega (arith, ints)

-- an operand's value lies in its interval
abbrev pub OperandIn : List Interval → List ℤ → ℕ → Type 0
OperandIn before values a = IsIn (interval_at before a) (value_at values a)

pub IsIn-node : (vars : List FlatVar) (now after : ℕ → ℤ) (before : List Interval) (values : List ℤ) (node : FlatNode)
    → AllByRecursion (λ v. IsIn (of_variable (slice_get vars v)) (now v) × IsIn (of_variable (slice_get vars v)) (after v)) (variable_of node)
    → AllByRecursion (OperandIn before values) (operands node)
    → Divides before node
    → IsIn (node_interval vars before node) (node_value now after values node)
IsIn-node vars now after before values (Const z) v h d = IsIn-alone z
IsIn-node vars now after before values (Now u) v h d = v.0.0
IsIn-node vars now after before values (After u) v h d = v.0.1
IsIn-node vars now after before values (Add a b) v h d = IsIn-sum _ _ _ _ h.0 h.1.0
IsIn-node vars now after before values (Sub a b) v h d = IsIn-difference _ _ _ _ h.0 h.1.0
IsIn-node vars now after before values (Mul a b) v h d = IsIn-product _ _ _ _ h.0 h.1.0
IsIn-node vars now after before values (Mod a b) v h d =
    IsIn-remainder (interval_at before b) (value_at values a) (value_at values b) (dividend_above (interval_at before a) (value_at values a) d.0 h.0) (divisor_above (interval_at before b) (value_at values b) d.1 h.1.0) h.1.0
IsIn-node vars now after before values (Choose c a b) v h d = IsIn-choice (truth_at values c) _ _ _ _ h.1.0 h.1.1.0
IsIn-node vars now after before values (Not a) v h d = IsIn-truths _
IsIn-node vars now after before values (And a b) v h d = IsIn-truths _
IsIn-node vars now after before values (Or a b) v h d = IsIn-truths _
IsIn-node vars now after before values (Xor a b) v h d = IsIn-truths _
IsIn-node vars now after before values (Eq a b) v h d = IsIn-truths _
IsIn-node vars now after before values (Lt a b) v h d = IsIn-truths _
IsIn-node vars now after before values (Le a b) v h d = IsIn-truths _
