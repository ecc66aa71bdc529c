-- A TREAT in an expression: `IF c THEN TREAT p = e` replaces each occurrence of exactly the path `p`
-- by `case c : e; TRUE : p; esac`, all at once.
use Rattle.std.specs.Prelude.{Bool, true, false, ◌&&◌, if◌then◌else◌, List, [], ◌∷◌, ℕ}
use Rattle.std.specs.Str.{bytes_eq}
use Rattle.smv_ast.specs.declared.syntax.Path.{Path}
use Rattle.smv_ast.specs.declared.syntax.Expr.{Expr, fold-Expr, roll-Expr, Expr-F}
use Rattle.smv_ast.specs.declared.syntax.Expr.TheVariants as expr
use Rattle.smv_ast.specs.declared.syntax.Choice.{Choice, fold-Choice, roll-Choice}
use Rattle.smv_ast.specs.declared.syntax.Branch.{Branch, fold-Branch, roll-Branch}
use Rattle.integrate_impose.specs.Guard.{guarded}
use Rattle.integrate_treat.specs.declared.expressions.Treatment.{Treatment}

-- a replacement with this condition, path and right side
abbrev pub treatment : Expr → List (List ℕ) → Expr → Treatment
treatment cond path right = record { cond = cond; path = path; right = right }

-- whether two paths have the same names
abbrev pub same_names : List (List ℕ) → List (List ℕ) → Bool
same_names [] [] = true
same_names (a ∷ more) (b ∷ others) = bytes_eq a b && same_names more others
same_names names others = false

-- an occurrence of a path: guarded where it is the replaced one
abbrev pub treated_path : Treatment → Path → Expr
treated_path t path = if same_names path.names t.path then guarded t.cond t.right
    (expr.Name path) else expr.Name path

-- an expression whose parts are treated: only a path changes
abbrev pub treated_layer : Treatment → Expr-F Choice Expr Branch → Expr
treated_layer t (Expr-F.Name path) = treated_path t path
treated_layer t e = roll-Expr e

-- the expression with each occurrence of the path replaced; the text that is put in is not treated
-- again
abbrev pub treated : Treatment → Expr → Expr
treated t = fold-Expr Choice Expr Branch roll-Choice (treated_layer t) roll-Branch

-- a set of values with each occurrence replaced
abbrev pub treated_choice : Treatment → Choice → Choice
treated_choice t = fold-Choice Choice Expr Branch roll-Choice (treated_layer t) roll-Branch

-- a branch with each occurrence replaced
abbrev pub treated_branch : Treatment → Branch → Branch
treated_branch t = fold-Branch Choice Expr Branch roll-Choice (treated_layer t) roll-Branch
