-- The value of each form of constraint, from those of its parts.
use Rattle.std.proofs.Common.{◌≡◌, Bool, true, false, not, List}
use Rattle.smv_ast.specs.declared.syntax.Op.{Op}
use Rattle.smv_ast.specs.declared.syntax.Path.{Path}
use Rattle.smv_ast.specs.declared.syntax.Expr as X
use denote.Hole.Carrier.{roll}
use Rattle.smv_ast.specs.declared.syntax.Expr.{Expr, Expr-F, fold-roll-Expr}
use Rattle.smv_ast.specs.declared.syntax.Expr.TheVariants as e
use Rattle.smv_ast.specs.declared.model.Product.{Product}
use Rattle.feature_model.specs.Constraints.{Name, path_value, op_value, choice_layer, branch_layer, expr_layer, value}

pub value_true : (names : List Name) (p : Product) → value names p e.True ≡ true
unfolding X.roll-Expr roll
value_true names p = fold-roll-Expr Bool Bool Bool choice_layer (expr_layer names p) branch_layer Expr-F.True

pub value_false : (names : List Name) (p : Product) → value names p e.False ≡ false
unfolding X.roll-Expr roll
value_false names p = fold-roll-Expr Bool Bool Bool choice_layer (expr_layer names p) branch_layer Expr-F.False

pub value_name : (names : List Name) (p : Product) (path : Path) → value names p (e.Name path) ≡ path_value names p path.names
unfolding X.roll-Expr roll
value_name names p path = fold-roll-Expr Bool Bool Bool choice_layer (expr_layer names p) branch_layer (Expr-F.Name path)

pub value_not : (names : List Name) (p : Product) (a : Expr) → value names p (e.Not a) ≡ not (value names p a)
unfolding X.roll-Expr roll
value_not names p a = fold-roll-Expr Bool Bool Bool choice_layer (expr_layer names p) branch_layer (Expr-F.Not a)

pub value_binary : (names : List Name) (p : Product) (op : Op) (a b : Expr) → value names p (e.Binary op a b) ≡ op_value op (value names p a) (value names p b)
unfolding X.roll-Expr roll
value_binary names p op a b = fold-roll-Expr Bool Bool Bool choice_layer (expr_layer names p) branch_layer (Expr-F.Binary op a b)
