-- The height of an expression's tree. Its nodes are expressions alone, and a tree of one node has height 1.
use Rattle.std.specs.Prelude.{ℕ, suc, max, List, fold}
use Rattle.smv_ast.specs.declared.syntax.Expr.{Expr, Expr-F, fold-Expr}
use Rattle.smv_ast.specs.declared.syntax.Choice.{Choice, Choice-F, fold-Choice}
use Rattle.smv_ast.specs.declared.syntax.Branch.{Branch, Branch-F, fold-Branch}

-- the greatest of some heights, and 0 where there are none
abbrev pub greatest : List ℕ → ℕ
greatest heights = fold max 0 heights

-- of a set of values: the greatest height of its parts
abbrev pub choice_layer : Choice-F ℕ ℕ ℕ → ℕ
choice_layer (Choice-F.Each parts) = greatest parts
choice_layer (Choice-F.Between low high) = 0

-- of a branch: the greater height of its two parts
abbrev pub branch_layer : Branch-F ℕ ℕ ℕ → ℕ
branch_layer branch = max branch.cond branch.value

-- of an expression: one more than the greatest height of its parts
abbrev pub expr_layer : Expr-F ℕ ℕ ℕ → ℕ
expr_layer Expr-F.True = 1
expr_layer Expr-F.False = 1
expr_layer (Expr-F.Number n) = 1
expr_layer (Expr-F.Name path) = 1
expr_layer (Expr-F.Neg a) = suc a
expr_layer (Expr-F.Not a) = suc a
expr_layer (Expr-F.Binary op a b) = suc (max a b)
expr_layer (Expr-F.Within a choice) = suc (max a choice)
expr_layer (Expr-F.Cases branches) = suc (greatest branches)
expr_layer (Expr-F.Next a) = suc a
expr_layer (Expr-F.Pick choice) = suc choice

-- the height of an expression's tree
abbrev pub height : Expr → ℕ
height = fold-Expr ℕ ℕ ℕ choice_layer expr_layer branch_layer

-- the height of the highest part of a set of values
abbrev pub choice_height : Choice → ℕ
choice_height = fold-Choice ℕ ℕ ℕ choice_layer expr_layer branch_layer

-- the height of the higher part of a branch
abbrev pub branch_height : Branch → ℕ
branch_height = fold-Branch ℕ ℕ ℕ choice_layer expr_layer branch_layer
