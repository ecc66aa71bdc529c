-- The feature model that a text stands for: each name is given by its number.
use Rattle.std.specs.Prelude.{◌≡◌, ℕ, ◌+◌, List, [], ◌∷◌, length, Option, Some, None, Result, Ok, Err}
use Rattle.std.specs.List.{range_with_len}
use Rattle.smv_ast.specs.declared.model.ModelLine.{ModelLine}
use Rattle.smv_ast.specs.declared.model.ModelLine.TheVariants as line
use Rattle.smv_ast.specs.declared.model.FeatureModel.{FeatureModel}
use Rattle.smv_ast.specs.declared.fault.Fault.{Fault}
use Rattle.smv_ast.specs.declared.fault.Fault.TheVariants as fault
use Rattle.feature_model.specs.Constraints.{Name, feature_of}
use Rattle.feature_model.specs.NameFaults.{declared_by, declared_names, count_fault}
use Rattle.feature_model.specs.declared.text.TextLine.{TextLine}
use Rattle.feature_model.specs.declared.text.TextLine.TheVariants.{Group, Constraint}
use Rattle.feature_model.specs.declared.text.ModelText.{ModelText}

-- the number, or 0 where there is none
abbrev pub or_root : Option ℕ → ℕ
or_root None = 0
or_root (Some f) = f

-- the line with numbers: so many features stand before it, and its children are the next ones
abbrev pub numbered_line : List Name → ℕ → TextLine → ModelLine
numbered_line names count (Group kind parent children) = line.Group kind
    (or_root (feature_of names parent.name)) (range_with_len count (length children))
numbered_line names count (Constraint e) = line.Constraint e

-- the lines with numbers
abbrev pub numbered : List Name → ℕ → List TextLine → List ModelLine
numbered names count [] = []
numbered names count (one ∷ more) = numbered_line names count one ∷ numbered names (count + length (declared_by one)) more

-- the feature model of a text: its features are numbered in the order of their declarations, the root 0
abbrev pub model_of : ModelText → FeatureModel
model_of t = record { names = declared_names t; lines = numbered (declared_names t) 1 t.lines }

-- the feature model of the text, or that it declares too many features; or memory runs out
abbrev pub IsCounted : ModelText → Result FeatureModel Fault → Type 0
IsCounted t (Ok model) = (count_fault (length (declared_names t)) ≡ None) × (model ≡ model_of t)
IsCounted t (Err fault.NoMemory) = Unit {0}
IsCounted t (Err f) = count_fault (length (declared_names t)) ≡ Some f
