-- The nodes of an expression's tree in text order, each with its depth.
use Rattle.std.specs.Prelude.{ℕ, suc, List, [], ◌∷◌, ◌++◌, map, Option, Some, None}
use Rattle.std.specs.Option.{option_map}
use Rattle.smv_ast.specs.declared.syntax.Expr.{Expr, fold-Expr, Expr-F}
use Rattle.smv_ast.specs.declared.syntax.Choice.{Choice, fold-Choice, Choice-F}
use Rattle.smv_ast.specs.declared.syntax.Branch.{Branch, fold-Branch, Branch-F}
use Rattle.smv_cycles.specs.declared.nodes.Node.{Node as Held}
use Rattle.smv_meaning.specs.Value.{Name}

-- a node: its depth, and its path, if it is one
pub record Node : Type 0 where
  pub above : ℕ
  pub path : Option (List Name)

-- the node that a Rust value represents
abbrev pub node_view : Held → Node
node_view n = record { above = n.above; path = option_map (λ path. path.now.names) n.path }

-- the nodes that Rust values represent
abbrev pub nodes_view : List Held → List Node
nodes_view = map node_view

-- the nodes of a tree, given the depth of its root
abbrev pub Nodes : Type 0
Nodes = ℕ → List Node

-- a node other than a path
abbrev pub plain : ℕ → Node
plain above = record { above = above; path = None }

-- the nodes of these trees, one after another
abbrev pub each_of : List Nodes → Nodes
each_of [] above = []
each_of (nodes ∷ more) above = nodes above ++ each_of more above

-- the nodes of a set of values, which is no node itself, given those of its parts
abbrev pub choice_nodes_layer : Choice-F Nodes Nodes Nodes → Nodes
choice_nodes_layer (Choice-F.Each parts) above = each_of parts above
choice_nodes_layer (Choice-F.Between low high) above = []

-- the nodes of an expression: itself, then those of its parts one deeper
abbrev pub expr_nodes_layer : Expr-F Nodes Nodes Nodes → Nodes
expr_nodes_layer Expr-F.True above = plain above ∷ []
expr_nodes_layer Expr-F.False above = plain above ∷ []
expr_nodes_layer (Expr-F.Number n) above = plain above ∷ []
expr_nodes_layer (Expr-F.Name path) above = record { above = above; path = Some path.names } ∷ []
expr_nodes_layer (Expr-F.Neg a) above = plain above ∷ a (suc above)
expr_nodes_layer (Expr-F.Not a) above = plain above ∷ a (suc above)
expr_nodes_layer (Expr-F.Binary op a b) above = plain above ∷ a (suc above) ++ b (suc above)
expr_nodes_layer (Expr-F.Within a choice) above = plain above ∷ a (suc above) ++ choice (suc above)
expr_nodes_layer (Expr-F.Cases branches) above = plain above ∷ each_of branches (suc above)
expr_nodes_layer (Expr-F.Next a) above = plain above ∷ a (suc above)
expr_nodes_layer (Expr-F.Pick choice) above = plain above ∷ choice (suc above)

-- the nodes of a branch, which is no node itself: those of its condition, then those of its value
abbrev pub branch_nodes_layer : Branch-F Nodes Nodes Nodes → Nodes
branch_nodes_layer branch above = branch.cond above ++ branch.value above

-- the nodes of an expression at a depth, by recursion on its parts
abbrev pub nodes_below : Expr → Nodes
nodes_below = fold-Expr Nodes Nodes Nodes choice_nodes_layer expr_nodes_layer branch_nodes_layer

-- the nodes of a set of values
abbrev pub choice_nodes : Choice → Nodes
choice_nodes = fold-Choice Nodes Nodes Nodes choice_nodes_layer expr_nodes_layer branch_nodes_layer

-- the nodes of a branch
abbrev pub branch_nodes : Branch → Nodes
branch_nodes = fold-Branch Nodes Nodes Nodes choice_nodes_layer expr_nodes_layer branch_nodes_layer

-- the nodes of a whole expression
abbrev pub nodes_of : Expr → List Node
nodes_of e = nodes_below e 0
