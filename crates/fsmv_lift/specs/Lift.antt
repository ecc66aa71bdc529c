-- The lift of a family: one model for all its products. It is the base, with the features' variables
-- in reach of each module, and with all features applied in the order of their texts, each guarded by
-- its variable; then the pins of introduced variables, the formula of the feature model, and the
-- module of the features' variables.
use Rattle.std.specs.Prelude.{ℕ, ◌+◌, Bool, true, false, if◌then◌else◌, List, [], ◌∷◌, ◌++◌, length, map, Option, Some, None, find, codes}
use Rattle.std.specs.List.{flat_map, fold}
use Rattle.std.specs.Option.{option_map}
use Rattle.smv_ast.specs.declared.syntax.Path.{Path}
use Rattle.smv_ast.specs.declared.syntax.SmvType.TheVariants as type
use Rattle.smv_ast.specs.declared.syntax.Op.TheVariants as op
use Rattle.smv_ast.specs.declared.syntax.Expr.{Expr, Expr-F, fold-Expr, roll-Expr}
use Rattle.smv_ast.specs.declared.syntax.Expr.TheVariants as expr
use Rattle.smv_ast.specs.declared.syntax.Choice.{Choice, fold-Choice, roll-Choice}
use Rattle.smv_ast.specs.declared.syntax.Branch.{Branch, fold-Branch, roll-Branch}
use Rattle.smv_ast.specs.declared.program.Declared.TheVariants.{Plain}
use Rattle.smv_ast.specs.declared.program.Declaration.{Declaration}
use Rattle.smv_ast.specs.declared.program.Left.TheVariants as left
use Rattle.smv_ast.specs.declared.program.Assignment.{Assignment}
use Rattle.smv_ast.specs.declared.program.Section.{Section}
use Rattle.smv_ast.specs.declared.program.Section.TheVariants as section
use Rattle.smv_ast.specs.declared.program.Module.{Module}
use Rattle.smv_ast.specs.declared.program.Program.{Program}
use Rattle.smv_ast.specs.declared.feature.Feature.{Feature}
use Rattle.smv_ast.specs.declared.feature.Family.{Family}
use Rattle.smv_ast.specs.declared.feature.Joined.{Joined}
use Rattle.smv_ast.specs.declared.feature.OwnedVar.{OwnedVar}
use Rattle.smv_ast.specs.declared.feature.OwnedSpec.{OwnedSpec}
use Rattle.smv_ast.specs.declared.feature.Lifted.{Lifted}
use Rattle.smv_ast.specs.declared.model.FeatureModel.{FeatureModel}
use Rattle.smv_meaning.specs.Value.{Name}
use Rattle.feature_model.specs.Constraints.{feature_of}
use Rattle.feature_model.specs.Formula.{formula_of}
use Rattle.integrate_impose.specs.Impose.{is_named}
use Rattle.integrate.specs.Joined.{joined, with_part}
use Rattle.fsmv_lift.specs.LiftNames as lift
use Rattle.fsmv_lift.specs.LiftNames.{features_module, features_instance, added_at, guard}
use Rattle.fsmv_lift.specs.LiftedBase.{lifted_base}
use Rattle.fsmv_lift.specs.FirstValues.{first_of}
use Rattle.fsmv_lift.specs.IntroducedVariables.{Introduced, introduces}
use Rattle.fsmv_lift.specs.GuardedFeature.{guarded_parts, guarded_changes}
use Rattle.fsmv_lift.specs.TotalChanges.{after_parts}

-- ---- the features

-- the model after a feature with its guards
abbrev pub after_guarded : Program → Feature → Program
after_guarded p f = after_parts p (guarded_parts f) (guarded_changes f)

-- the lifted base after these features, each with its guards
abbrev pub guarded_lift : Program → List Feature → Program
guarded_lift base = fold after_guarded (lifted_base base)

-- a part of one section that the lift adds to a module
abbrev pub added_part : Name → Section → Joined
added_part called s = record { «module» = called; sections = s ∷ []; at = added_at }

-- ---- the pins

-- `y = first`
abbrev pub is_at_first : Introduced → Expr
is_at_first x = expr.Binary op.Eq
    (lift.name x.name) (first_of x.type)

-- `INVAR fsmv_fm.F | (y = first);`: without its feature the variable stands at its first value
abbrev pub pin : Name → Introduced → Joined
pin feature x = added_part x.«module»
    (section.Invar (expr.Binary op.Or (guard feature) (is_at_first x)) added_at)

-- the pins of the variables that a feature introduces
abbrev pub pins_of : Feature → List Joined
pins_of f = map (pin f.name) (introduces f.joins)

-- the pins of all introduced variables, by features and then by declarations in order
abbrev pub pins : List Feature → List Joined
pins = flat_map pins_of

-- ---- the formula

-- the path of a feature's variable
abbrev pub lifted_path : Path → Path
lifted_path path = record path { names = features_instance ∷ path.names }

-- a layer of the formula, in the lift: a feature's name is the path of its variable
abbrev pub lifted_layer : Expr-F Choice Expr Branch → Expr
lifted_layer (Expr-F.Name path) = expr.Name (lifted_path path)
lifted_layer e = roll-Expr e

-- a constraint on features, over their variables in the lift
abbrev pub lifted_constraint : Expr → Expr
lifted_constraint = fold-Expr Choice Expr Branch roll-Choice lifted_layer roll-Branch

-- a set of values over the features' variables
abbrev pub lifted_choice : Choice → Choice
lifted_choice = fold-Choice Choice Expr Branch roll-Choice lifted_layer roll-Branch

-- a branch over the features' variables
abbrev pub lifted_branch : Branch → Branch
lifted_branch = fold-Branch Choice Expr Branch roll-Choice lifted_layer roll-Branch

-- `INIT formula;` at the end of `main`
abbrev pub formula_part : FeatureModel → Joined
formula_part model = added_part (codes "main")
    (section.Init (lifted_constraint (formula_of model)) added_at)

-- ---- the module of the features' variables

-- `F : boolean;`
abbrev pub feature_declaration : Name → Declaration
feature_declaration feature = record
    { name = feature; what = Plain type.Boolean; at = added_at }

-- `next(F) := F;`: a run stands at one product
abbrev pub feature_stays : Name → Assignment
feature_stays feature = record {
  left = left.Next;
  name = feature;
  right = lift.name feature;
  at = added_at;
}

-- the module with a variable for each feature
abbrev pub module_of_features : List Name → Module
module_of_features names = record {
  name = features_module;
  formals = [];
  sections = section.Vars (map feature_declaration names) ∷ section.Assigns
      (map feature_stays names) ∷ [];
  at = added_at;
}

-- ---- the lift

-- the model with a module at its end
abbrev pub with_module : Program → Module → Program
with_module p m = record p { modules = p.modules ++ m ∷ [] }

-- the model of the lift, from that with all features
abbrev pub finished_program : Family → Program → Program
finished_program family p = with_module
    (with_part (joined p (pins family.features)) (formula_part family.model))
    (module_of_features family.model.names)

-- the model of the lift
abbrev pub lift_program : Family → Program
lift_program family = finished_program family (guarded_lift family.base family.features)

-- ---- the owners of what features introduce

-- the number of the feature of a text; 0 where the feature model lacks it
abbrev pub number_of : List Name → Feature → ℕ
number_of names f = elim (feature_of names f.name) [ None ↦ 0 | Some n ↦ n ]

-- an introduced variable with its feature
abbrev pub owned_variable : ℕ → Introduced → OwnedVar
owned_variable feature x = record { «module» = x.«module»; name = x.name; feature = feature }

-- the variables of a feature, by declarations in order
abbrev pub variables_of : List Name → Feature → List OwnedVar
variables_of names f = map (owned_variable (number_of names f)) (introduces f.joins)

-- the introduced variables with their features, by features and then by declarations in order
abbrev pub owned_variables : List Name → List Feature → List OwnedVar
owned_variables names = flat_map (variables_of names)

-- whether a section is a spec
abbrev pub is_spec : Section → Bool
is_spec (section.InvarSpec e at) = true
is_spec s = false

-- the spec of a section of a module
abbrev pub owned_spec : ℕ → Name → ℕ → OwnedSpec
owned_spec feature called n = record { «module» = called; «section» = n; feature = feature }

-- the spec of a section, if it is one
abbrev pub spec_at : ℕ → Name → ℕ → Section → List OwnedSpec
spec_at feature called n s = if is_spec s then owned_spec feature called n ∷ [] else []

-- the specs among sections that are appended to a module, by the numbers of their sections, the
-- first of which is given
abbrev pub specs_from : ℕ → Name → ℕ → List Section → List OwnedSpec
specs_from feature called n [] = []
specs_from feature called n (s ∷ more) = spec_at feature called n s
    ++ specs_from feature called (n + 1) more

-- the number of sections of the first module of a name
abbrev pub section_count : Program → Name → ℕ
section_count p called = elim (find (is_named called) p.modules)
    [ None ↦ 0 | Some m ↦ length m.sections ]

-- the specs of a joined part that is appended to a model
abbrev pub specs_of_part : ℕ → Program → Joined → List OwnedSpec
specs_of_part feature p part = specs_from feature part.«module»
    (section_count p part.«module») part.sections

-- the specs of joined parts that are appended to a model one after another
abbrev pub specs_of_parts : ℕ → Program → List Joined → List OwnedSpec
specs_of_parts feature p [] = []
specs_of_parts feature p (part ∷ more) = specs_of_part feature p part
    ++ specs_of_parts feature (with_part p part) more

-- the specs of a feature, in written order, where it is applied to this model
abbrev pub specs_of : List Name → Program → Feature → List OwnedSpec
specs_of names p f = specs_of_parts (number_of names f) p (guarded_parts f)

-- the introduced specs with their features, by features and then in written order, where the
-- features are applied to this model one after another
abbrev pub owned_specs : List Name → Program → List Feature → List OwnedSpec
owned_specs names p [] = []
owned_specs names p (f ∷ more) = specs_of names p f ++ owned_specs names (after_guarded p f) more

-- the lift, from the model with all features
abbrev pub finished : Family → Program → Lifted
finished family p = record {
  program = finished_program family p;
  vars = owned_variables family.model.names family.features;
  specs = owned_specs family.model.names (lifted_base family.base) family.features;
}

-- the lift of a family
abbrev pub lift_of : Family → Lifted
lift_of family = finished family (guarded_lift family.base family.features)
