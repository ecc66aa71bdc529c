-- The denotation of each form of an expression, from those of its parts.
use Rattle.std.proofs.Common.{◌≡◌, ℕ, ℤ, List, [], ◌∷◌, map, ap, ◌∙◌}
use denote.Hole.Carrier.{roll}
use Rattle.smv_ast.specs.declared.syntax.Op.{Op}
use Rattle.smv_ast.specs.declared.syntax.Path.{Path}
use Rattle.smv_ast.specs.declared.syntax.Expr.{Expr, Expr-F}
use Rattle.smv_ast.specs.declared.syntax.Expr as X
use Rattle.smv_ast.specs.declared.syntax.Expr.TheVariants as expr
use Rattle.smv_ast.specs.declared.syntax.Choice.{Choice, Choice-F}
use Rattle.smv_ast.specs.declared.syntax.Choice as C
use Rattle.smv_ast.specs.declared.syntax.Choice.TheVariants as choice
use Rattle.smv_ast.specs.declared.syntax.Branch.{Branch}
use Rattle.smv_meaning.specs.Denotations.{BranchDenotation, choice_denotation, expr_denotation, denotation_of, choice_allows, branch_denotation_of}
use Rattle.smv_meaning.specs.MentionedPaths.{denotation_roll, choice_roll, branch_roll}
use Rattle.integrate_impose.specs.Guard.{guarded}
use Rattle.lift_relation.specs.RelatedExpr.{branch_of}

pub true_is : denotation_of expr.True ≡ expr_denotation Expr-F.True
unfolding X.roll-Expr roll
true_is = denotation_roll Expr-F.True

pub false_is : denotation_of expr.False ≡ expr_denotation Expr-F.False
unfolding X.roll-Expr roll
false_is = denotation_roll Expr-F.False

pub number_is : (n : ℕ) → denotation_of (expr.Number n) ≡ expr_denotation (Expr-F.Number n)
unfolding X.roll-Expr roll
number_is n = denotation_roll (Expr-F.Number n)

pub name_is : (path : Path) → denotation_of (expr.Name path) ≡ expr_denotation (Expr-F.Name path)
unfolding X.roll-Expr roll
name_is path = denotation_roll (Expr-F.Name path)

pub neg_is : (a : Expr) → denotation_of (expr.Neg a) ≡ expr_denotation (Expr-F.Neg (denotation_of a))
unfolding X.roll-Expr roll
neg_is a = denotation_roll (Expr-F.Neg a)

pub not_is : (a : Expr) → denotation_of (expr.Not a) ≡ expr_denotation (Expr-F.Not (denotation_of a))
unfolding X.roll-Expr roll
not_is a = denotation_roll (Expr-F.Not a)

pub binary_is : (op : Op) (a b : Expr) → denotation_of (expr.Binary op a b) ≡ expr_denotation (Expr-F.Binary op (denotation_of a) (denotation_of b))
unfolding X.roll-Expr roll
binary_is op a b = denotation_roll (Expr-F.Binary op a b)

pub within_is : (a : Expr) (c : Choice) → denotation_of (expr.Within a c) ≡ expr_denotation (Expr-F.Within (denotation_of a) (choice_allows c))
unfolding X.roll-Expr roll
within_is a c = denotation_roll (Expr-F.Within a c)

pub cases_is : (branches : List Branch) → denotation_of (expr.Cases branches) ≡ expr_denotation (Expr-F.Cases (map branch_denotation_of branches))
unfolding X.roll-Expr roll
cases_is branches = denotation_roll (Expr-F.Cases branches)

pub next_is : (a : Expr) → denotation_of (expr.Next a) ≡ expr_denotation (Expr-F.Next (denotation_of a))
unfolding X.roll-Expr roll
next_is a = denotation_roll (Expr-F.Next a)

pub pick_is : (c : Choice) → denotation_of (expr.Pick c) ≡ expr_denotation (Expr-F.Pick (choice_allows c))
unfolding X.roll-Expr roll
pick_is c = denotation_roll (Expr-F.Pick c)

pub each_is : (parts : List Expr) → choice_allows (choice.Each parts) ≡ choice_denotation (Choice-F.Each (map denotation_of parts))
unfolding C.roll-Choice roll
each_is parts = choice_roll (Choice-F.Each parts)

pub between_is : (low high : ℤ) → choice_allows (choice.Between low high) ≡ choice_denotation (Choice-F.Between low high)
unfolding C.roll-Choice roll
between_is low high = choice_roll (Choice-F.Between low high)

-- the denotation of a branch of these parts
abbrev pub parts : Expr → Expr → BranchDenotation
parts cond value = record { cond = denotation_of cond; value = denotation_of value }

-- the denotation of a guarded value
pub guarded_is : (cond value old : Expr) → denotation_of (guarded cond value old) ≡ expr_denotation (Expr-F.Cases (parts cond value ∷ parts expr.True old ∷ []))
guarded_is cond value old =
    cases_is (branch_of cond value ∷ branch_of expr.True old ∷ [])
    ∙ (ap (λ (x : BranchDenotation). expr_denotation (Expr-F.Cases (x ∷ branch_denotation_of (branch_of expr.True old) ∷ []))) (branch_roll cond value)
    ∙ ap (λ (x : BranchDenotation). expr_denotation (Expr-F.Cases (parts cond value ∷ x ∷ []))) (branch_roll expr.True old))
