-- Propositional formulas: the expressions that may stand in constraints.
use Rattle.std.specs.Prelude.{Bool, true, false, ◌&&◌, List, [], ◌∷◌}
use Rattle.smv_ast.specs.declared.syntax.Expr.{Expr, Expr-F, fold-Expr}
use Rattle.feature_model.specs.Constraints.{Name}
use Rattle.feature_model.specs.WellFormed.{is_logical, choice_layer, branch_layer}

-- a path is a single name
abbrev pub is_single : List Name → Bool
is_single (name ∷ []) = true
is_single path = false

-- TRUE, FALSE, single names, and what `!`, `&`, `|`, `xor`, `xnor`, `<->` and `->` make of them
abbrev pub expr_layer : Expr-F Bool Bool Bool → Bool
expr_layer Expr-F.True = true
expr_layer Expr-F.False = true
expr_layer (Expr-F.Name path) = is_single path.names
expr_layer (Expr-F.Not a) = a
expr_layer (Expr-F.Binary op a b) = is_logical op && (a && b)
expr_layer e = false

-- whether the expression is a propositional formula
abbrev pub is_propositional : Expr → Bool
is_propositional = fold-Expr Bool Bool Bool choice_layer expr_layer branch_layer
