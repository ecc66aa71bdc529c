-- The number of nodes of an expression by itself, without the nodes of its names. Sums saturate at
-- the end of `u64`.
use Rattle.std.specs.Prelude.{ℕ, zero, suc, ◌+◌, ◌-◌, ◌^◌, min, pred, true, false, ◌||◌, List, [], ◌∷◌, length}
use Rattle.smv_ast.specs.declared.syntax.Op.{Op}
use Rattle.smv_ast.specs.declared.syntax.Op.TheVariants as op
use Rattle.smv_ast.specs.declared.syntax.Expr.{Expr, fold-Expr, Expr-F}
use Rattle.smv_ast.specs.declared.syntax.Choice.{Choice, fold-Choice, Choice-F}
use Rattle.smv_ast.specs.declared.syntax.Branch.{Branch, fold-Branch, Branch-F}
use Rattle.smv_nodes.specs.declared.own.Nodes.{Nodes}

-- a sum that saturates at the end of `u64`
abbrev pub saturating_add : ℕ → ℕ → ℕ
saturating_add a b = min (a + b) (2 ^ 64 - 1)

-- no nodes
abbrev pub none : Nodes
none = record { value = 0; right = 0; free = false }

-- the nodes of both
abbrev pub both : Nodes → Nodes → Nodes
both a b = record {
  value = saturating_add a.value b.value;
  right = saturating_add a.right b.right;
  free = a.free
      || b.free;
}

-- an expression without a free choice: as a right side it has one node more, the Eq with its
-- variable
abbrev pub simple : ℕ → Nodes
simple n = record { value = n; right = saturating_add n 1; free = false }

-- the nodes of an operator, without those of its operands: `!=`, `xnor` and `<->` are the Not of
-- another operator, `->` is the Or of a Not, `a > b` and `a >= b` exchange their operands
abbrev pub op_nodes : Op → ℕ
op_nodes op.Ne = 2
op_nodes op.Xnor = 2
op_nodes op.Iff = 2
op_nodes op.Implies = 2
op_nodes o = 1

-- a part of a set: as a test it is an Eq with the variable, and an Or with the tests before it
abbrev pub part_nodes : ℕ → Nodes → Nodes
part_nodes ors part = record {
  value = part.value;
  right = saturating_add part.value (suc ors);
  free = true;
}

-- the parts of a set; the first counts this many Ors, each other one
abbrev pub parts_after : ℕ → List Nodes → Nodes
parts_after ors [] = none
parts_after ors (part ∷ more) = both (part_nodes ors part) (parts_after 1 more)

-- a choice, its parts as values and its tests of a variable: `low..high` is the And of two Le with
-- `low` and with `high`
abbrev pub choice_layer : Choice-F Nodes Nodes (Nodes × Nodes) → Nodes
choice_layer (Choice-F.Each parts) = parts_after 0 parts
choice_layer (Choice-F.Between low high) = record { value = 0; right = 5; free = true }

-- a branch whose condition is read: a Choose with that condition
abbrev pub read_branch : Nodes → Nodes
read_branch cond = record {
  value = saturating_add cond.value 1;
  right = saturating_add cond.value 1;
  free = false;
}

-- branches; the conditions of the first so many are read
abbrev pub branches_nodes : ℕ → List (Nodes × Nodes) → Nodes
branches_nodes conds [] = none
branches_nodes zero (branch ∷ more) = both branch.1 (branches_nodes zero more)
branches_nodes (suc conds) (branch ∷ more) = both (read_branch branch.0)
    (both branch.1 (branches_nodes conds more))

-- a case that contains a free choice tests the variable in its branches, any other case has one Eq
-- with it
abbrev pub case_nodes : Nodes → Nodes
case_nodes n = elim n.free [ true ↦ n | false ↦ simple n.value ]

-- a free choice in a value's position, where the checks refuse it, counts one and its parts
abbrev pub picked : Nodes → Nodes
picked choice = record { value = saturating_add choice.value 1; right = choice.right; free = true }

-- the nodes of an expression, given those of its parts: the last condition of a case is not read;
-- `-a` is Sub of 0 and `a`
abbrev pub expr_layer : Expr-F Nodes Nodes (Nodes × Nodes) → Nodes
expr_layer Expr-F.True = simple 1
expr_layer Expr-F.False = simple 1
expr_layer (Expr-F.Number n) = simple 1
expr_layer (Expr-F.Name path) = simple 0
expr_layer (Expr-F.Neg a) = simple (saturating_add a.value 2)
expr_layer (Expr-F.Not a) = simple (saturating_add a.value 1)
expr_layer (Expr-F.Binary op a b) = simple
    (saturating_add (saturating_add a.value b.value) (op_nodes op))
expr_layer (Expr-F.Within a choice) = simple (saturating_add a.value choice.right)
expr_layer (Expr-F.Cases branches) = case_nodes (branches_nodes (pred (length branches)) branches)
expr_layer (Expr-F.Next a) = simple a.value
expr_layer (Expr-F.Pick choice) = picked choice

-- the nodes of a branch: those of its condition and of its value
abbrev pub branch_layer : Branch-F Nodes Nodes (Nodes × Nodes) → Nodes × Nodes
branch_layer branch = (branch.cond, branch.value)

-- the nodes of an expression
abbrev pub nodes_of : Expr → Nodes
nodes_of = fold-Expr Nodes Nodes (Nodes × Nodes) choice_layer expr_layer branch_layer

-- the nodes of a choice
abbrev pub choice_nodes : Choice → Nodes
choice_nodes = fold-Choice Nodes Nodes (Nodes × Nodes) choice_layer expr_layer branch_layer

-- the nodes of a branch
abbrev pub branch_nodes : Branch → Nodes × Nodes
branch_nodes = fold-Branch Nodes Nodes (Nodes × Nodes) choice_layer expr_layer branch_layer
