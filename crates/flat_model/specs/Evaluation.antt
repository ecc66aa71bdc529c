-- The values of nodes, operands first.
use Rattle.std.specs.Prelude.{ℕ, Bool, ◌&&◌, ◌||◌, not, if◌then◌else◌, List, ℤ, pos, ◌+ℤ◌, ◌-ℤ◌, ◌*ℤ◌, ◌≤ℤ◌, ◌<ℤ◌, int_lt, int_le, int_rem, slice_index_or}
use Rattle.std.specs.Ordering.{int_eq}
use Rattle.flat_model.specs.declared.nodes.FlatNode.{FlatNode}
use Rattle.flat_model.specs.declared.nodes.FlatNode.TheVariants.{Const, Now, After, Not, And, Or, Xor, Eq, Lt, Le, Add, Sub, Mul, Mod, Choose}
use Rattle.flat_model.specs.declared.variables.FlatVar.{FlatVar}
use Rattle.flat_model.specs.Numbers.{truth_of, number_of, either}
use Rattle.flat_model.specs.Variables.{number_in}
use Rattle.flat_model.specs.Nodes.{attributes}

-- the value of an operand
abbrev pub value_at : List ℤ → ℕ → ℤ
value_at values a = slice_index_or values a (pos 0)

-- the truth value of an operand
abbrev pub truth_at : List ℤ → ℕ → Bool
truth_at values a = truth_of (value_at values a)

-- The value of a node from those of the nodes before it. `now` and `after` give each variable's number in the current and the next state.
abbrev pub node_value : (ℕ → ℤ) → (ℕ → ℤ) → List ℤ → FlatNode → ℤ
node_value now after values (Const z) = z
node_value now after values (Now v) = now v
node_value now after values (After v) = after v
node_value now after values (Not a) = number_of (not (truth_at values a))
node_value now after values (And a b) = number_of (truth_at values a && truth_at values b)
node_value now after values (Or a b) = number_of (truth_at values a || truth_at values b)
node_value now after values (Xor a b) = number_of (either (truth_at values a) (truth_at values b))
node_value now after values (Eq a b) = number_of (int_eq (value_at values a) (value_at values b))
node_value now after values (Lt a b) = number_of (int_lt (value_at values a) (value_at values b))
node_value now after values (Le a b) = number_of (int_le (value_at values a) (value_at values b))
node_value now after values (Add a b) = value_at values a +ℤ value_at values b
node_value now after values (Sub a b) = value_at values a -ℤ value_at values b
node_value now after values (Mul a b) = value_at values a *ℤ value_at values b
node_value now after values (Mod a b) = int_rem (value_at values a) (value_at values b)
node_value now after values (Choose c a b) = if truth_at values c then value_at values a else value_at values b

-- the values of all nodes
abbrev pub eval : (ℕ → ℤ) → (ℕ → ℤ) → List FlatNode → List ℤ
eval now after nodes = attributes (node_value now after) nodes

-- the values of all nodes where the variables stand at these positions in the current and the next state
abbrev pub values_at : List FlatVar → List FlatNode → List ℕ → List ℕ → List ℤ
values_at vars nodes now after = eval (number_in vars now) (number_in vars after) nodes

-- a division at these values is of a number that is not below 0 by one above 0
abbrev pub CanDivide : List ℤ → FlatNode → Type 0
CanDivide values (Mod a b) = (pos 0 ≤ℤ value_at values a) × (pos 0 <ℤ value_at values b)
CanDivide values _ = Unit {0}
