-- Valid products.
use Rattle.std.specs.Prelude.{ℕ, ◌^◌, ◌<◌, List, length, All, Any, AllPairs, IsTrue}
use Rattle.smv_ast.specs.declared.model.GroupKind.{GroupKind}
use Rattle.smv_ast.specs.declared.model.GroupKind.TheVariants.{Mandatory, Optional, Or, Alternative}
use Rattle.smv_ast.specs.declared.model.ModelLine.{ModelLine}
use Rattle.smv_ast.specs.declared.model.ModelLine.TheVariants.{Group, Constraint}
use Rattle.smv_ast.specs.declared.model.FeatureModel.{FeatureModel}
use Rattle.smv_ast.specs.declared.model.Product.{Product}
use Rattle.feature_model.specs.Products.{Has}
use Rattle.feature_model.specs.Constraints.{Name, value}

-- each child that the product has asks for its parent
abbrev pub AskForParent : Product → ℕ → List ℕ → Type 0
AskForParent p parent children = All (λ child. Has p child → Has p parent) children

-- with the parent the product has at least one child
abbrev pub AtLeastOne : Product → ℕ → List ℕ → Type 0
AtLeastOne p parent children = Has p parent → Any (Has p) children

-- the product has no two of the children
abbrev pub AtMostOne : Product → List ℕ → Type 0
AtMostOne p children = AllPairs (λ one other. Has p one → Has p other → ⊥) children

-- what a group asks of its children, beside that they ask for their parent
abbrev pub KeepsKind : Product → GroupKind → ℕ → List ℕ → Type 0
KeepsKind p Mandatory parent children = Has p parent → All (Has p) children
KeepsKind p Optional parent children = Unit {0}
KeepsKind p Or parent children = AtLeastOne p parent children
KeepsKind p Alternative parent children = AtLeastOne p parent children × AtMostOne p children

-- what a line of the feature model asks of the product
abbrev pub KeepsLine : List Name → Product → ModelLine → Type 0
KeepsLine names p (Group kind parent children) = AskForParent p parent children × KeepsKind p kind parent children
KeepsLine names p (Constraint e) = IsTrue (value names p e)

-- the product has the root, keeps each line, and has no feature beyond the last
pub record IsValid (model : FeatureModel) (p : Product) : Type 0 where
  pub root : Has p 0
  pub lines : All (KeepsLine model.names p) model.lines
  pub within : p.bits < 2 ^ length model.names
