-- The value of a constraint in a product.
use Rattle.std.specs.Prelude.{ℕ, Bool, true, false, not, ◌&&◌, ◌||◌, List, [], ◌∷◌, Option, Some, None, position}
use Rattle.std.specs.Bool.{beq}
use Rattle.std.specs.Str.{bytes_eq}
use Rattle.smv_ast.specs.declared.syntax.Op.{Op}
use Rattle.smv_ast.specs.declared.syntax.Op.TheVariants as op
use Rattle.smv_ast.specs.declared.syntax.Expr.{Expr, Expr-F, fold-Expr}
use Rattle.smv_ast.specs.declared.syntax.Choice.{Choice-F}
use Rattle.smv_ast.specs.declared.syntax.Branch.{Branch-F}
use Rattle.smv_ast.specs.declared.model.Product.{Product}
use Rattle.feature_model.specs.Products.{has}

-- a name, as its bytes
abbrev pub Name : Type 0
Name = List ℕ

-- the number of the first feature of this name
abbrev pub feature_of : List Name → Name → Option ℕ
feature_of names name = position (λ n. bytes_eq n name) names

-- whether the product has the feature, if there is one
abbrev pub has_some : Product → Option ℕ → Bool
has_some p None = false
has_some p (Some f) = has p.bits f

-- the value of a path: of a single name, whether the product has the feature of that name
abbrev pub path_value : List Name → Product → List Name → Bool
path_value names p (name ∷ []) = has_some p (feature_of names name)
path_value names p path = false

-- the value of an operator between truth values; no other operators stand in constraints
abbrev pub op_value : Op → Bool → Bool → Bool
op_value op.And a b = a && b
op_value op.Or a b = a || b
op_value op.Xor a b = not (beq a b)
op_value op.Xnor a b = beq a b
op_value op.Iff a b = beq a b
op_value op.Implies a b = not a || b
op_value other a b = false

-- no choices stand in constraints
abbrev pub choice_layer : Choice-F Bool Bool Bool → Bool
choice_layer c = false

-- no cases stand in constraints
abbrev pub branch_layer : Branch-F Bool Bool Bool → Bool
branch_layer b = false

-- the value of an expression, from those of its parts; no other forms stand in constraints
abbrev pub expr_layer : List Name → Product → Expr-F Bool Bool Bool → Bool
expr_layer names p Expr-F.True = true
expr_layer names p (Expr-F.Name path) = path_value names p path.names
expr_layer names p (Expr-F.Not a) = not a
expr_layer names p (Expr-F.Binary op a b) = op_value op a b
expr_layer names p e = false

-- the value of a constraint in a product, where the features have these names
abbrev pub value : List Name → Product → Expr → Bool
value names p = fold-Expr Bool Bool Bool choice_layer (expr_layer names p) branch_layer
