-- The nodes of expressions, as a run over the nodes made so far. Operands come first, from left to
-- right, with one node for each occurrence of a name; a definition or formal of an instance has one
-- node, made at its first use, when read now, and one when read after the step.
use Rattle.std.specs.Prelude.{ℕ, zero, suc, Bool, true, false, List, [], ◌∷◌, ◌++◌, length, ℤ, pos, Option, Some, None, slice_get, slice_set}
use Rattle.std.specs.List.{list_any}
use Rattle.smv_ast.specs.declared.syntax.Op.{Op}
use Rattle.smv_ast.specs.declared.syntax.Op.TheVariants as op
use Rattle.smv_ast.specs.declared.syntax.Expr.{Expr, Expr-F, out-Expr, fold-Expr}
use Rattle.smv_ast.specs.declared.syntax.Choice.{Choice, Choice-F, out-Choice}
use Rattle.smv_ast.specs.declared.syntax.Branch.{Branch, out-Branch, fold-Branch}
use Rattle.fixpoint.specs.Fixpoints.{entry}
use Rattle.smv_meaning.specs.declared.table.Slot.{Slot}
use Rattle.smv_meaning.specs.Value.{Name}
use Rattle.smv_meaning.specs.Paths.{Binding, IsVariable, IsDefine, IsFormal}
use Rattle.smv_meaning.specs.InstanceTable.{binding_view}
use Rattle.smv_meaning.specs.Slots.{resolve_slot}
use Rattle.flat_model.specs.declared.nodes.FlatNode.{FlatNode}
use Rattle.flat_model.specs.declared.nodes.FlatNode.TheVariants as node
use Rattle.smv_flatten.specs.declared.store.SharedNodes.{SharedNodes}
use Rattle.smv_flatten.specs.declared.store.Store.{Store}
use Rattle.smv_flatten.specs.declared.names.NameTables.{NameTables}
use Rattle.smv_flatten.specs.Names.{path_number}

-- the store after a run, and the number of the node that it made
abbrev pub Made : Type 0
Made = Store × ℕ

-- a run that makes a node
abbrev pub Run : Type 0
Run = Store → Made

-- one more node
abbrev pub pushed : FlatNode → Run
pushed n st = (record st { nodes = st.nodes ++ n ∷ [] }, length st.nodes)

-- one more node, over the one that was made
abbrev pub then_pushed : (ℕ → FlatNode) → Made → Made
then_pushed over m = pushed (over m.1) m.0

-- a node in the place of an expression that is cut off
abbrev pub cut : Run
cut st = pushed (node.Const (pos 0)) (record st { is_cut = true })

-- ---- shared nodes

-- the shared nodes that are read after the step, or now
abbrev pub shared_list : SharedNodes → Bool → List (Option ℕ)
shared_list nodes true = nodes.next
shared_list nodes false = nodes.current

-- the shared node of a slot, if it has been made
abbrev pub shared_node : SharedNodes → Bool → ℕ → Option ℕ
shared_node nodes after_step k = entry (shared_list nodes after_step) k

-- the shared nodes with one for a slot
abbrev pub with_shared : SharedNodes → Bool → ℕ → ℕ → SharedNodes
with_shared nodes true k n = record nodes { next = slice_set nodes.next k (Some n) }
with_shared nodes false k n = record nodes { current = slice_set nodes.current k (Some n) }

-- the node that was made becomes that of a slot
abbrev pub shared : Bool → ℕ → Made → Made
shared after_step k m = (record m.0 { shared = with_shared m.0.shared after_step k m.1 }, m.1)

-- ---- operators

-- the first operand as an operator reads it: `->` reads the Not of it, made before the second
abbrev pub operand_read : Op → Made → Made
operand_read op.Implies m = then_pushed node.Not m
operand_read o m = m

-- the node of an operator, after those of its operands: `!=`, `xnor` and `<->` are the Not of
-- another one, `a > b` and `a >= b` have their operands exchanged, `->` is the Or of the Not
abbrev pub joined : Op → ℕ → ℕ → Run
joined op.Add a b st = pushed (node.Add a b) st
joined op.Sub a b st = pushed (node.Sub a b) st
joined op.Mul a b st = pushed (node.Mul a b) st
joined op.Mod a b st = pushed (node.Mod a b) st
joined op.Eq a b st = pushed (node.Eq a b) st
joined op.Ne a b st = then_pushed node.Not (pushed (node.Eq a b) st)
joined op.Lt a b st = pushed (node.Lt a b) st
joined op.Gt a b st = pushed (node.Lt b a) st
joined op.Le a b st = pushed (node.Le a b) st
joined op.Ge a b st = pushed (node.Le b a) st
joined op.And a b st = pushed (node.And a b) st
joined op.Or a b st = pushed (node.Or a b) st
joined op.Xor a b st = pushed (node.Xor a b) st
joined op.Xnor a b st = then_pushed node.Not (pushed (node.Xor a b) st)
joined op.Iff a b st = then_pushed node.Not (pushed (node.Xor a b) st)
joined op.Implies a b st = pushed (node.Or a b) st

-- ---- names

-- the node of a variable
abbrev pub variable_node : Bool → ℕ → FlatNode
variable_node true v = node.After v
variable_node false v = node.Now v

-- the same, if it has a number
abbrev pub variable_made : Bool → Option ℕ → Run
variable_made after_step None st = pushed (node.Const (pos 0)) st
variable_made after_step (Some v) st = pushed (variable_node after_step v) st

-- the run of an expression that is read in the instance of a row, after the step or now
abbrev pub Maker : Type 0
Maker = ℕ → Bool → Expr → Run

-- the node of a definition or formal: the one that has been made, else a new one
abbrev pub shared_made : Maker → ℕ → Bool → ℕ → Expr → Option ℕ → Run
shared_made make k after_step row e (Some n) st = (st, n)
shared_made make k after_step row e None st = shared after_step k (make row after_step e st)

-- the node of the name of a slot, by its binding
abbrev pub binding_made : NameTables → Maker → ℕ → Bool → ℕ → Binding ℕ → Run
binding_made names make k after_step row IsVariable st = variable_made after_step
    (entry names.variables.now k) st
binding_made names make k after_step row (IsDefine right) st = shared_made make k after_step row
    right (shared_node st.shared after_step k) st
binding_made names make k after_step row (IsFormal outer actual) st = shared_made make k after_step
    outer actual (shared_node st.shared after_step k) st
binding_made names make k after_step row m st = pushed (node.Const (pos 0)) st

-- the node of the name of a slot, if there is one
abbrev pub slot_made : NameTables → Maker → ℕ → Bool → Option Slot → Run
slot_made names make k after_step None st = pushed (node.Const (pos 0)) st
slot_made names make k after_step (Some slot) st = binding_made names make k after_step slot.row
    (binding_view slot.binding) st

-- the node of a path: that of the declaration that it resolves to, else that of the symbol
abbrev pub path_made : NameTables → Maker → Bool → List Name → Option ℕ → Run
path_made names make after_step path None st = pushed
    (node.Const (pos (path_number names.symbols.now path))) st
path_made names make after_step path (Some k) st = slot_made names make k after_step
    (slice_get names.table.now.slots k) st

-- ---- cases

-- the node of a case: the Choose of its first condition, after the nodes of all conditions and
-- values; the last condition is not read. The values may have a maker of their own
abbrev pub cases_made : Maker → Maker → ℕ → Bool → List Branch → Run
cases_made make ends row after_step [] st = pushed (node.Const (pos 0)) st
cases_made make ends row after_step (b ∷ []) st = ends row after_step (out-Branch b).value st
cases_made make ends row after_step (b ∷ next ∷ more) st =
    let c = make row after_step (out-Branch b).cond st in
    let v = ends row after_step (out-Branch b).value c.0 in
    let r = cases_made make ends row after_step (next ∷ more) v.0 in
    pushed (node.Choose c.1 v.1 r.1) r.0

-- the Chooses of these conditions and values, that of the last condition first, over a last value
abbrev pub chosen : List (ℕ × ℕ) → Made → Made
chosen [] m = m
chosen (b ∷ more) m = let r = chosen more m in pushed (node.Choose b.0 b.1 r.1) r.0

-- ---- choices

-- the test whether a node equals an expression
abbrev pub test_made : Maker → ℕ → Maker
test_made make x row after_step e st = then_pushed (node.Eq x) (make row after_step e st)

-- the Ors of a test with those of further parts
abbrev pub more_parts_made : Maker → ℕ → ℕ → Bool → ℕ → List Expr → Run
more_parts_made make x row after_step found [] st = (st, found)
more_parts_made make x row after_step found (a ∷ more) st =
    let m = then_pushed (node.Or found) (test_made make x row after_step a st) in
    more_parts_made make x row after_step m.1 more m.0

-- the tests of the parts of a set, from the left
abbrev pub parts_made : Maker → ℕ → ℕ → Bool → List Expr → Run
parts_made make x row after_step [] st = pushed (node.Const (pos 0)) st
parts_made make x row after_step (a ∷ more) st =
    let m = test_made make x row after_step a st in
    more_parts_made make x row after_step m.1 more m.0

-- the test of the numbers from low to high
abbrev pub range_tested : ℕ → ℤ → ℤ → Run
range_tested x low high st =
    let a = then_pushed (λ n. node.Le n x) (pushed (node.Const low) st) in
    let b = then_pushed (λ n. node.Le x n) (pushed (node.Const high) a.0) in
    pushed (node.And a.1 b.1) b.0

-- the test whether a node has one of the values of a choice
abbrev pub choice_made : Maker → ℕ → ℕ → Bool → Choice-F Choice Expr Branch → Run
choice_made make x row after_step (Choice-F.Each parts) st = parts_made make x row after_step parts
    st
choice_made make x row after_step (Choice-F.Between low high) st = range_tested x low high st

-- whether an expression is a free choice, or a case with one in a value
abbrev pub free_layer : Expr-F Bool Bool Bool → Bool
free_layer (Expr-F.Cases branches) = list_any (λ b. b) branches
free_layer (Expr-F.Pick choice) = true
free_layer e = false

-- the same, by recursion on the values of cases
abbrev pub is_free : Expr → Bool
is_free = fold-Expr Bool Bool Bool (λ c. true) free_layer (λ b. b.value)

-- the same of the value of a branch
abbrev pub is_free_branch : Branch → Bool
is_free_branch = fold-Branch Bool Bool Bool (λ c. true) free_layer (λ b. b.value)

-- ---- expressions

-- the node of an expression, given the maker of its parts; a choice has none as a value
abbrev pub layer_made : NameTables → Maker → ℕ → Bool → Expr-F Choice Expr Branch → Run
layer_made names make row after_step Expr-F.True st = pushed (node.Const (pos 1)) st
layer_made names make row after_step Expr-F.False st = pushed (node.Const (pos 0)) st
layer_made names make row after_step (Expr-F.Number n) st = pushed (node.Const (pos n)) st
layer_made names make row after_step (Expr-F.Name path) st = path_made names make after_step
    path.names (resolve_slot names.table.now row path.names) st
layer_made names make row after_step (Expr-F.Neg a) st =
    let z = pushed (node.Const (pos 0)) st in
    then_pushed (λ n. node.Sub z.1 n) (make row after_step a z.0)
layer_made names make row after_step (Expr-F.Not a) st = then_pushed node.Not
    (make row after_step a st)
layer_made names make row after_step (Expr-F.Binary o a b) st =
    let m = operand_read o (make row after_step a st) in
    let n = make row after_step b m.0 in
    joined o m.1 n.1 n.0
layer_made names make row after_step (Expr-F.Within a choice) st =
    let m = make row after_step a st in
    choice_made make m.1 row after_step (out-Choice choice) m.0
layer_made names make row after_step (Expr-F.Cases branches) st = cases_made make make row
    after_step branches st
layer_made names make row after_step (Expr-F.Next a) st = make row true a st
layer_made names make row after_step (Expr-F.Pick choice) st = pushed (node.Const (pos 0)) st

-- the node of an expression that may be so high, through all that it reads
abbrev pub value_made : NameTables → ℕ → Maker
value_made names zero row after_step e st = cut st
value_made names (suc depth) row after_step e st = layer_made names (value_made names depth) row
    after_step (out-Expr e) st

-- the test of a right side, given the makers of the whole, of its parts and of the values of a
-- case: a choice is tested part by part, a case with a free choice chooses among the tests of its
-- values, and any other right side is one Eq
abbrev pub right_layer : Maker → Maker → Maker → ℕ → ℕ → Bool → Expr → Bool
    → Expr-F Choice Expr Branch → Run
right_layer whole make ends x row after_step e free (Expr-F.Pick choice) st = choice_made make x row
    after_step (out-Choice choice) st
right_layer whole make ends x row after_step e true (Expr-F.Cases branches) st = cases_made make
    ends row after_step branches st
right_layer whole make ends x row after_step e free layer st = test_made whole x row after_step e st

-- the test whether a node has one of the values of a right side that may be so high
abbrev pub right_made : NameTables → ℕ → ℕ → Maker
right_made names zero x row after_step e st = cut st
right_made names (suc depth) x row after_step e st = right_layer (value_made names (suc depth))
    (value_made names depth) (right_made names depth x) x row after_step e (is_free e) (out-Expr e)
    st
