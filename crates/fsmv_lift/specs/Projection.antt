-- Projection: a state of the lift without what a product does not have.
use Rattle.std.specs.Prelude.{◌≡◌, ℕ, Bool, ◌&&◌, ◌||◌, not, if◌then◌else◌, List, [], ◌∷◌, ◌++◌, length, ◌<◌, map, Option, Some, None, slice_index_or}
use Rattle.std.specs.List.{list_any, All}
use Rattle.std.specs.Str.{bytes_eq}
use Rattle.smv_ast.specs.declared.program.Program.{Program}
use Rattle.smv_ast.specs.declared.feature.OwnedVar.{OwnedVar}
use Rattle.smv_ast.specs.declared.feature.Lifted.{Lifted}
use Rattle.smv_ast.specs.declared.model.Product.{Product}
use Rattle.smv_meaning.specs.declared.value.Value.TheVariants.{Boolean}
use Rattle.smv_meaning.specs.Value.{Name}
use Rattle.smv_meaning.specs.Values.{State}
use Rattle.smv_meaning.specs.Instances.{Instance, called_at, path_of, instances}
use Rattle.smv_meaning.specs.Runs.{same_path}
use Rattle.feature_model.specs.Products.{has}
use Rattle.fsmv_lift.specs.LiftNames.{features_instance}

-- ---- states of a product

-- the path of a feature's variable, from `main`
abbrev pub variable_path : Name → List Name
variable_path feature = features_instance ∷ feature ∷ []

-- in the state exactly the variables of the product's features are TRUE, where the features have
-- these names
abbrev pub IsAt : List Name → Product → State → Type 0
IsAt names p s = (f : ℕ) → f < length names
    → s (variable_path (slice_index_or names f [])) ≡ Some (Boolean (has p.bits f))

-- ---- what a product does not have

-- whether a path is that of a feature's variable
abbrev pub is_feature_path : List Name → List Name → Bool
is_feature_path names path = list_any (λ feature. same_path (variable_path feature) path) names

-- whether a path is that of a variable in an instance
abbrev pub is_path_in : Instance → OwnedVar → List Name → Bool
is_path_in instance x path = bytes_eq (called_at instance) x.«module»
    && same_path (path_of instance ++ x.name ∷ []) path

-- whether a path is that of a variable in some instance of a model
abbrev pub is_path_of : Program → List Name → OwnedVar → Bool
is_path_of program path x = list_any (λ instance. is_path_in instance x path) (instances program)

-- whether a path is that of a variable that a feature outside the product introduces
abbrev pub is_absent : Lifted → Product → List Name → Bool
is_absent lifted p path = list_any
    (λ x. not (has p.bits x.feature) && is_path_of lifted.program path x) lifted.vars

-- the state without the features' variables and without the variables that features outside the
-- product introduce
abbrev pub projected : List Name → Lifted → Product → State → State
projected names lifted p s path = if is_feature_path names path || is_absent lifted p path
    then None else s path

-- a run, state by state
abbrev pub projected_run : List Name → Lifted → Product → List State → List State
projected_run names lifted p = map (projected names lifted p)
