-- Which feature models there are: those that a text stands for.
use Rattle.std.specs.Prelude.{◌≡◌, ◌≢◌, ℕ, ◌+◌, ◌<◌, ◌≤◌, Bool, true, false, ◌&&◌, List, [], ◌∷◌, length, take, All, AllPairs, IsTrue, is_some}
use Rattle.std.specs.List.{range_with_len}
use Rattle.smv_ast.specs.declared.syntax.Op.{Op}
use Rattle.smv_ast.specs.declared.syntax.Op.TheVariants as op
use Rattle.smv_ast.specs.declared.syntax.Expr.{Expr, Expr-F, fold-Expr}
use Rattle.smv_ast.specs.declared.syntax.Choice.{Choice-F}
use Rattle.smv_ast.specs.declared.syntax.Branch.{Branch-F}
use Rattle.smv_ast.specs.declared.model.ModelLine.{ModelLine}
use Rattle.smv_ast.specs.declared.model.ModelLine.TheVariants.{Group, Constraint}
use Rattle.smv_ast.specs.declared.model.FeatureModel.{FeatureModel}
use Rattle.feature_model.specs.Constraints.{Name, feature_of}

-- ---- constraints

-- whether the operator stands in constraints
abbrev pub is_logical : Op → Bool
is_logical op.And = true
is_logical op.Or = true
is_logical op.Xor = true
is_logical op.Xnor = true
is_logical op.Iff = true
is_logical op.Implies = true
is_logical other = false

-- no choices stand in constraints
abbrev pub choice_layer : Choice-F Bool Bool Bool → Bool
choice_layer c = false

-- no cases stand in constraints
abbrev pub branch_layer : Branch-F Bool Bool Bool → Bool
branch_layer b = false

-- a path is a single name, that of a feature
abbrev pub is_feature : List Name → List Name → Bool
is_feature names (name ∷ []) = is_some (feature_of names name)
is_feature names path = false

-- TRUE, FALSE, names of features, and what `!`, `&`, `|`, `xor`, `xnor`, `<->` and `->` make of them
abbrev pub expr_layer : List Name → Expr-F Bool Bool Bool → Bool
expr_layer names Expr-F.True = true
expr_layer names Expr-F.False = true
expr_layer names (Expr-F.Name path) = is_feature names path.names
expr_layer names (Expr-F.Not a) = a
expr_layer names (Expr-F.Binary op a b) = is_logical op && (a && b)
expr_layer names e = false

-- whether the expression is a constraint on features with these names
abbrev pub is_constraint : List Name → Expr → Bool
is_constraint names = fold-Expr Bool Bool Bool choice_layer (expr_layer names) branch_layer

-- ---- lines

-- With so many features declared before, the lines declare the others, in order: a group has a parent that is declared
-- before, and its children, at least one, are the next features; a constraint is one on the features that are declared before.
abbrev pub DeclareRest : List Name → ℕ → List ModelLine → Type 0
DeclareRest names count [] = count ≡ length names
DeclareRest names count (Group kind parent children ∷ more) =
    (parent < count) × (0 < length children) × (children ≡ range_with_len count (length children)) × DeclareRest names (count + length children) more
DeclareRest names count (Constraint e ∷ more) = IsTrue (is_constraint (take count names) e) × DeclareRest names count more

-- a feature model: up to 64 features with different names, each but the root declared by a line
pub record IsFeatureModel (model : FeatureModel) : Type 0 where
  pub few : length model.names ≤ 64
  pub distinct : AllPairs ◌≢◌ model.names
  pub lines : DeclareRest model.names 1 model.lines

-- ---- numbers

-- the features of the line are below the number
abbrev pub IsBelow : ℕ → ModelLine → Type 0
IsBelow count (Group kind parent children) = (parent < count) × All (λ child. child < count) children
IsBelow count (Constraint e) = Unit {0}

-- a set of 64 bits holds all features of the model
pub record FitsSet (model : FeatureModel) : Type 0 where
  pub few : length model.names ≤ 64
  pub lines : All (IsBelow 64) model.lines
