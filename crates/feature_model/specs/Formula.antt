-- The formula of a feature model, which is true of just its valid products.
use Rattle.std.specs.Prelude.{ℕ, List, [], ◌∷◌, ◌++◌, map, fold, slice_index_or}
use Rattle.std.specs.List.{flat_map}
use Rattle.smv_ast.specs.declared.syntax.Span.{Span}
use Rattle.smv_ast.specs.declared.syntax.Op.{Op}
use Rattle.smv_ast.specs.declared.syntax.Op.TheVariants as op
use Rattle.smv_ast.specs.declared.syntax.Expr.{Expr}
use Rattle.smv_ast.specs.declared.syntax.Expr.TheVariants as e
use Rattle.smv_ast.specs.declared.model.GroupKind.{GroupKind}
use Rattle.smv_ast.specs.declared.model.GroupKind.TheVariants.{Mandatory, Optional, Or, Alternative}
use Rattle.smv_ast.specs.declared.model.ModelLine.{ModelLine}
use Rattle.smv_ast.specs.declared.model.ModelLine.TheVariants.{Group, Constraint}
use Rattle.smv_ast.specs.declared.model.FeatureModel.{FeatureModel}
use Rattle.feature_model.specs.Constraints.{Name}

-- names that the formula adds stand at the start of the feature model's file
abbrev pub formula_place : Span
formula_place = record { file = 1; at = 0 }

-- the name of a feature
abbrev pub named : List Name → ℕ → Expr
named names f = e.Name (record { names = slice_index_or names f [] ∷ []; at = formula_place })

-- the first child, or any of the others, grouped from the left
abbrev pub any_of : List Name → List ℕ → Expr
any_of names [] = e.False
any_of names (child ∷ more) = fold (λ all one. e.Binary op.Or all (named names one)) (named names child) more

-- the child does not stand beside one of the others
abbrev pub excluded : List Name → ℕ → List ℕ → List Expr
excluded names child others = map (λ other. e.Not (e.Binary op.And (named names child) (named names other))) others

-- no two of the children, each with those behind it
abbrev pub exclusions : List Name → List ℕ → List Expr
exclusions names [] = []
exclusions names (child ∷ more) = excluded names child more ++ exclusions names more

-- each child, with its parent
abbrev pub with_parent : List Name → Op → ℕ → List ℕ → List Expr
with_parent names op parent children = map (λ child. e.Binary op (named names child) (named names parent)) children

-- the parent asks for one of the children
abbrev pub one_asked : List Name → ℕ → List ℕ → Expr
one_asked names parent children = e.Binary op.Implies (named names parent) (any_of names children)

-- what a group says, one after another
abbrev pub group_conjuncts : List Name → GroupKind → ℕ → List ℕ → List Expr
group_conjuncts names Mandatory parent children = with_parent names op.Iff parent children
group_conjuncts names Optional parent children = with_parent names op.Implies parent children
group_conjuncts names Or parent children = with_parent names op.Implies parent children ++ one_asked names parent children ∷ []
group_conjuncts names Alternative parent children = with_parent names op.Implies parent children ++ one_asked names parent children ∷ exclusions names children

-- what a line says
abbrev pub conjuncts : List Name → ModelLine → List Expr
conjuncts names (Group kind parent children) = group_conjuncts names kind parent children
conjuncts names (Constraint constraint) = constraint ∷ []

-- the conjunction of the expressions, from the left
abbrev pub all_of : Expr → List Expr → Expr
all_of = fold (e.Binary op.And)

-- the conjunction of the root and what the lines say
abbrev pub formula_of : FeatureModel → Expr
formula_of model = all_of (named model.names 0) (flat_map (conjuncts model.names) model.lines)
