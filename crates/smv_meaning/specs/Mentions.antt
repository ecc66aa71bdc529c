-- The paths that an expression mentions, in the order of the text.
use Rattle.std.specs.Prelude.{List, [], ◌∷◌, ◌++◌, map}
use denote.Ref.{Bor}
use Rattle.smv_ast.specs.declared.syntax.Path.{Path}
use Rattle.smv_ast.specs.declared.syntax.Expr.{Expr, fold-Expr, Expr-F}
use Rattle.smv_ast.specs.declared.syntax.Choice.{Choice, fold-Choice, Choice-F}
use Rattle.smv_ast.specs.declared.syntax.Branch.{Branch, fold-Branch, Branch-F}

-- the concatenation of lists
abbrev pub all_of : List (List Path) → List Path
all_of [] = []
all_of (paths ∷ more) = paths ++ all_of more

-- the paths of a set of values, given those of its parts
abbrev pub choice_paths_layer : Choice-F (List Path) (List Path) (List Path) → List Path
choice_paths_layer (Choice-F.Each parts) = all_of parts
choice_paths_layer (Choice-F.Between low high) = []

-- the paths of an expression, given those of its parts
abbrev pub expr_paths_layer : Expr-F (List Path) (List Path) (List Path) → List Path
expr_paths_layer Expr-F.True = []
expr_paths_layer Expr-F.False = []
expr_paths_layer (Expr-F.Number n) = []
expr_paths_layer (Expr-F.Name path) = path ∷ []
expr_paths_layer (Expr-F.Neg a) = a
expr_paths_layer (Expr-F.Not a) = a
expr_paths_layer (Expr-F.Binary op a b) = a ++ b
expr_paths_layer (Expr-F.Within a choice) = a ++ choice
expr_paths_layer (Expr-F.Cases branches) = all_of branches
expr_paths_layer (Expr-F.Next a) = a
expr_paths_layer (Expr-F.Pick choice) = choice

-- the paths of a branch: those of its condition, then those of its value
abbrev pub branch_paths_layer : Branch-F (List Path) (List Path) (List Path) → List Path
branch_paths_layer branch = branch.cond ++ branch.value

-- the paths of an expression, by recursion on its parts
abbrev pub paths_of : Expr → List Path
paths_of = fold-Expr (List Path) (List Path) (List Path) choice_paths_layer expr_paths_layer
    branch_paths_layer

-- the paths of a set of values
abbrev pub choice_paths : Choice → List Path
choice_paths = fold-Choice (List Path) (List Path) (List Path) choice_paths_layer expr_paths_layer
    branch_paths_layer

-- the paths of a branch
abbrev pub branch_paths : Branch → List Path
branch_paths = fold-Branch (List Path) (List Path) (List Path) choice_paths_layer expr_paths_layer
    branch_paths_layer

-- the targets of references
abbrev pub pointed : List (Bor Path) → List Path
pointed = map (λ path. path.now)
