-- Empty intervals: `low..high` with `low` above `high`.
use Rattle.std.specs.Prelude.{Bool, false, ◌||◌, ℤ, int_lt}
use Rattle.std.specs.List.{list_any}
use Rattle.smv_ast.specs.declared.syntax.SmvType.{SmvType}
use Rattle.smv_ast.specs.declared.syntax.SmvType.TheVariants as type
use Rattle.smv_ast.specs.declared.syntax.Expr.{Expr, fold-Expr, Expr-F}
use Rattle.smv_ast.specs.declared.syntax.Choice.{Choice, fold-Choice, Choice-F}
use Rattle.smv_ast.specs.declared.syntax.Branch.{Branch, fold-Branch, Branch-F}

-- whether an interval is empty
abbrev pub is_empty : ℤ → ℤ → Bool
is_empty low high = int_lt high low

-- whether a type is an empty interval
abbrev pub empty_type : SmvType → Bool
empty_type (type.Range low high) = is_empty low high
empty_type t = false

-- whether a choice is an empty interval, or a part of it contains one
abbrev pub choice_layer : Choice-F Bool Bool Bool → Bool
choice_layer (Choice-F.Each parts) = list_any (λ part. part) parts
choice_layer (Choice-F.Between low high) = is_empty low high

-- whether an expression contains an empty interval, by its parts
abbrev pub expr_layer : Expr-F Bool Bool Bool → Bool
expr_layer Expr-F.True = false
expr_layer Expr-F.False = false
expr_layer (Expr-F.Number n) = false
expr_layer (Expr-F.Name path) = false
expr_layer (Expr-F.Neg a) = a
expr_layer (Expr-F.Not a) = a
expr_layer (Expr-F.Binary op a b) = a || b
expr_layer (Expr-F.Within a choice) = a || choice
expr_layer (Expr-F.Cases branches) = list_any (λ branch. branch) branches
expr_layer (Expr-F.Next a) = a
expr_layer (Expr-F.Pick choice) = choice

-- whether the condition or the value of a branch contains an empty interval
abbrev pub branch_layer : Branch-F Bool Bool Bool → Bool
branch_layer branch = branch.cond || branch.value

-- whether an expression contains an empty interval
abbrev pub has_empty : Expr → Bool
has_empty = fold-Expr Bool Bool Bool choice_layer expr_layer branch_layer

-- whether a choice contains an empty interval
abbrev pub choice_has_empty : Choice → Bool
choice_has_empty = fold-Choice Bool Bool Bool choice_layer expr_layer branch_layer

-- whether a branch contains an empty interval
abbrev pub branch_has_empty : Branch → Bool
branch_has_empty = fold-Branch Bool Bool Bool choice_layer expr_layer branch_layer
