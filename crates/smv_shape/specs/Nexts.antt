-- Positions of `next`: `next(e)` stands only in steps, and `e` contains no `next`.
use Rattle.std.specs.Prelude.{Bool, true, false, ◌||◌, if◌then◌else◌}
use Rattle.std.specs.List.{list_any}
use Rattle.smv_ast.specs.declared.syntax.Expr.{Expr, fold-Expr, Expr-F}
use Rattle.smv_ast.specs.declared.syntax.Choice.{Choice, fold-Choice, Choice-F}
use Rattle.smv_ast.specs.declared.syntax.Branch.{Branch, fold-Branch, Branch-F}

-- whether an expression has a misplaced `next`, given whether it may contain one
abbrev pub Placed : Type 0
Placed = Bool → Bool

-- the parts of a choice may contain `next` where the choice may
abbrev pub choice_layer : Choice-F Placed Placed Placed → Placed
choice_layer (Choice-F.Each parts) allowed = list_any (λ part. part allowed) parts
choice_layer (Choice-F.Between low high) allowed = false

-- the parts of an expression may contain `next` where it may, but not within `next`
abbrev pub expr_layer : Expr-F Placed Placed Placed → Placed
expr_layer Expr-F.True allowed = false
expr_layer Expr-F.False allowed = false
expr_layer (Expr-F.Number n) allowed = false
expr_layer (Expr-F.Name path) allowed = false
expr_layer (Expr-F.Neg a) allowed = a allowed
expr_layer (Expr-F.Not a) allowed = a allowed
expr_layer (Expr-F.Binary op a b) allowed = a allowed || b allowed
expr_layer (Expr-F.Within a choice) allowed = a allowed || choice allowed
expr_layer (Expr-F.Cases branches) allowed = list_any (λ branch. branch allowed) branches
expr_layer (Expr-F.Next a) allowed = if allowed then a false else true
expr_layer (Expr-F.Pick choice) allowed = choice allowed

-- both parts of a branch may contain `next` where the branch may
abbrev pub branch_layer : Branch-F Placed Placed Placed → Placed
branch_layer branch allowed = branch.cond allowed || branch.value allowed

-- whether an expression has a misplaced `next`, given whether it may contain one
abbrev pub has_stray_next : Expr → Bool → Bool
has_stray_next = fold-Expr Placed Placed Placed choice_layer expr_layer branch_layer

-- whether a choice has a misplaced `next`
abbrev pub choice_has_stray : Choice → Bool → Bool
choice_has_stray = fold-Choice Placed Placed Placed choice_layer expr_layer branch_layer

-- whether a branch has a misplaced `next`
abbrev pub branch_has_stray : Branch → Bool → Bool
branch_has_stray = fold-Branch Placed Placed Placed choice_layer expr_layer branch_layer
