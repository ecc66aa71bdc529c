-- The subexpressions of an expression.
use Rattle.std.specs.Prelude.{ℕ, zero, suc, List, [], ◌∷◌}
use Rattle.std.specs.List.{flat_map, Contains}
use Rattle.smv_ast.specs.declared.syntax.Expr.{Expr, Expr-F, out-Expr}
use Rattle.smv_ast.specs.declared.syntax.Choice.{Choice, Choice-F, out-Choice}
use Rattle.smv_ast.specs.declared.syntax.Branch.{Branch, out-Branch}

-- the expressions that are parts of one layer of a choice
abbrev pub choice_layer_parts : Choice-F Choice Expr Branch → List Expr
choice_layer_parts (Choice-F.Each parts) = parts
choice_layer_parts (Choice-F.Between low high) = []

-- the expressions that are parts of a choice
abbrev pub choice_parts : Choice → List Expr
choice_parts choice = choice_layer_parts (out-Choice choice)

-- the parts of a branch: its condition and its value
abbrev pub branch_parts : Branch → List Expr
branch_parts branch = (out-Branch branch).cond ∷ (out-Branch branch).value ∷ []

-- the parts of one layer of an expression, in text order
abbrev pub expr_layer_parts : Expr-F Choice Expr Branch → List Expr
expr_layer_parts Expr-F.True = []
expr_layer_parts Expr-F.False = []
expr_layer_parts (Expr-F.Number n) = []
expr_layer_parts (Expr-F.Name path) = []
expr_layer_parts (Expr-F.Neg a) = a ∷ []
expr_layer_parts (Expr-F.Not a) = a ∷ []
expr_layer_parts (Expr-F.Binary op a b) = a ∷ b ∷ []
expr_layer_parts (Expr-F.Within a choice) = a ∷ choice_parts choice
expr_layer_parts (Expr-F.Cases branches) = flat_map branch_parts branches
expr_layer_parts (Expr-F.Next a) = a ∷ []
expr_layer_parts (Expr-F.Pick choice) = choice_parts choice

-- the direct parts of an expression
abbrev pub direct_parts : Expr → List Expr
direct_parts e = expr_layer_parts (out-Expr e)

-- the subexpressions at this depth; the expression itself at depth 0
abbrev pub parts_below : ℕ → Expr → List Expr
parts_below zero e = e ∷ []
parts_below (suc layers) e = flat_map (parts_below layers) (direct_parts e)

-- the first expression is a subexpression of the second, or equal to it
abbrev pub IsPart : Expr → Expr → Type 0
IsPart e part = (layers : ℕ) × Contains (parts_below layers e) part
