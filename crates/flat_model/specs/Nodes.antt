-- Nodes, their operands, and what each node has by the nodes that it reads.
use Rattle.std.specs.Prelude.{ℕ, Bool, true, false, ◌||◌, ◌&&◌, List, [], ◌∷◌, ◌++◌, pos, Option, Some, None, slice_get, slice_index_or}
use Rattle.std.specs.List.{fold, list_any}
use Rattle.std.specs.Ordering.{int_eq}
use Rattle.flat_model.specs.declared.nodes.FlatNode.{FlatNode}
use Rattle.flat_model.specs.declared.nodes.FlatNode.TheVariants.{Const, Now, After, Not, And, Or, Xor, Eq, Lt, Le, Add, Sub, Mul, Mod, Choose}
use Rattle.flat_model.specs.declared.variables.FlatVar.{FlatVar}
use Rattle.flat_model.specs.declared.variables.Values.{Values}
use Rattle.flat_model.specs.declared.variables.Values.TheVariants.{Boolean}

-- An attribute of all nodes in order. The rule gives that of a node from those of the nodes before it.
abbrev pub attributes : {X A : Type 0} → (List A → X → A) → List X → List A
attributes rule nodes = fold (λ before node. before ++ rule before node ∷ []) [] nodes

-- the operands of a node
abbrev pub operands : FlatNode → List ℕ
operands (Const z) = []
operands (Now v) = []
operands (After v) = []
operands (Not a) = a ∷ []
operands (And a b) = a ∷ b ∷ []
operands (Or a b) = a ∷ b ∷ []
operands (Xor a b) = a ∷ b ∷ []
operands (Eq a b) = a ∷ b ∷ []
operands (Lt a b) = a ∷ b ∷ []
operands (Le a b) = a ∷ b ∷ []
operands (Add a b) = a ∷ b ∷ []
operands (Sub a b) = a ∷ b ∷ []
operands (Mul a b) = a ∷ b ∷ []
operands (Mod a b) = a ∷ b ∷ []
operands (Choose c a b) = c ∷ a ∷ b ∷ []

-- the operands that are read as truth values
abbrev pub truth_operands : FlatNode → List ℕ
truth_operands (Not a) = a ∷ []
truth_operands (And a b) = a ∷ b ∷ []
truth_operands (Or a b) = a ∷ b ∷ []
truth_operands (Xor a b) = a ∷ b ∷ []
truth_operands (Choose c a b) = c ∷ []
truth_operands _ = []

-- the variable that a node reads itself
abbrev pub variable_of : FlatNode → List ℕ
variable_of (Now v) = v ∷ []
variable_of (After v) = v ∷ []
variable_of _ = []

-- whether a variable is there and Boolean
abbrev pub is_boolean_variable : Option FlatVar → Bool
is_boolean_variable None = false
is_boolean_variable (Some var) = is_boolean_type var.values
  where
    is_boolean_type : Values → Bool
    is_boolean_type Boolean = true
    is_boolean_type _ = false

-- Whether a node is Boolean: a truth value by its operator, a Boolean variable, 0 or 1, or a choice between two Boolean nodes.
abbrev pub is_boolean : List FlatVar → List Bool → FlatNode → Bool
is_boolean vars before (Const z) = int_eq z (pos 0) || int_eq z (pos 1)
is_boolean vars before (Now v) = is_boolean_variable (slice_get vars v)
is_boolean vars before (After v) = is_boolean_variable (slice_get vars v)
is_boolean vars before (Add a b) = false
is_boolean vars before (Sub a b) = false
is_boolean vars before (Mul a b) = false
is_boolean vars before (Mod a b) = false
is_boolean vars before (Choose c a b) = slice_index_or before a false && slice_index_or before b false
is_boolean vars before _ = true

-- for each node, whether it is Boolean
abbrev pub booleans : List FlatVar → List FlatNode → List Bool
booleans vars nodes = attributes (is_boolean vars) nodes

-- For each node, whether it or a node that it reads, directly or through others, passes the test.
abbrev pub reads : (FlatNode → Bool) → List FlatNode → List Bool
reads test nodes = attributes (λ before node. test node || list_any (λ a. slice_index_or before a false) (operands node)) nodes

-- whether the node is a variable in the next state
abbrev pub is_after : FlatNode → Bool
is_after (After v) = true
is_after _ = false
