-- Positions of choices: a free choice is a right side, or the value of a branch of a case in such a
-- position.
use Rattle.std.specs.Prelude.{Bool, true, false, ◌||◌, if◌then◌else◌}
use Rattle.std.specs.List.{list_any}
use Rattle.smv_ast.specs.declared.syntax.Expr.{Expr, fold-Expr, Expr-F}
use Rattle.smv_ast.specs.declared.syntax.Choice.{Choice, fold-Choice, Choice-F}
use Rattle.smv_ast.specs.declared.syntax.Branch.{Branch, fold-Branch, Branch-F}

-- whether an expression has a misplaced free choice, given whether it may be one itself
abbrev pub Placed : Type 0
Placed = Bool → Bool

-- the parts of a choice, after `in` or free, may not be free choices
abbrev pub choice_layer : Choice-F Bool Placed Placed → Bool
choice_layer (Choice-F.Each parts) = list_any (λ part. part false) parts
choice_layer (Choice-F.Between low high) = false

-- the branches of a case may be free choices where the case may; no other part of an expression may
abbrev pub expr_layer : Expr-F Bool Placed Placed → Placed
expr_layer Expr-F.True allowed = false
expr_layer Expr-F.False allowed = false
expr_layer (Expr-F.Number n) allowed = false
expr_layer (Expr-F.Name path) allowed = false
expr_layer (Expr-F.Neg a) allowed = a false
expr_layer (Expr-F.Not a) allowed = a false
expr_layer (Expr-F.Binary op a b) allowed = a false || b false
expr_layer (Expr-F.Within a choice) allowed = a false || choice
expr_layer (Expr-F.Cases branches) allowed = list_any (λ branch. branch allowed) branches
expr_layer (Expr-F.Next a) allowed = a false
expr_layer (Expr-F.Pick choice) allowed = if allowed then choice else true

-- the value of a branch may be a free choice where its case may, the condition may not
abbrev pub branch_layer : Branch-F Bool Placed Placed → Placed
branch_layer branch allowed = branch.cond false || branch.value allowed

-- whether an expression has a misplaced free choice, given whether it may be one itself
abbrev pub has_stray_choice : Expr → Bool → Bool
has_stray_choice = fold-Expr Bool Placed Placed choice_layer expr_layer branch_layer

-- whether a part of a choice contains a free choice
abbrev pub choice_has_stray : Choice → Bool
choice_has_stray = fold-Choice Bool Placed Placed choice_layer expr_layer branch_layer

-- whether a branch has a misplaced free choice
abbrev pub branch_has_stray : Branch → Bool → Bool
branch_has_stray = fold-Branch Bool Placed Placed choice_layer expr_layer branch_layer
