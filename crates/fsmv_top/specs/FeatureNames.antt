-- Each text of a feature is the only one of its name, and the feature model has the name.
use Rattle.std.specs.Prelude.{ℕ, Bool, List, [], ◌∷◌, Option, Some, None, is_some, if◌then◌else◌}
use Rattle.smv_ast.specs.declared.feature.Feature.{Feature}
use Rattle.smv_ast.specs.declared.feature.Family.{Family}
use Rattle.smv_ast.specs.declared.fault.Fault.{Fault}
use Rattle.smv_ast.specs.declared.fault.Fault.TheVariants as fault
use Rattle.smv_meaning.specs.NameSets.{no_name, and_name}
use Rattle.smv_meaning.specs.Runs.{or_else, first_fault}
use Rattle.feature_model.specs.Constraints.{feature_of}
use Rattle.fsmv_top.specs.ReservedNames.{reserved_fault}

-- the fault of a text whose name an earlier one has, where the test gives the names before
unfoldable pub repeated_text : (List ℕ → Bool) → Feature → Option Fault
repeated_text seen f = if seen f.name then Some (fault.DuplicateText (Some f.at) f.name) else None

-- the first text whose name an earlier one has
abbrev pub second_text : (List ℕ → Bool) → List Feature → Option Fault
second_text seen [] = None
second_text seen (f ∷ more) = or_else (repeated_text seen f)
    (second_text (and_name seen f.name) more)

-- the fault of a text whose name is none of these
unfoldable pub unlisted : List (List ℕ) → Feature → Option Fault
unlisted names f = if is_some (feature_of names f.name) then None else
    Some (fault.FeatureNotInModel (Some f.at) f.name)

-- the first fault of the names of the texts: a second text of a name, else a name that the feature model lacks
abbrev pub text_names_fault : Family → Option Fault
text_names_fault family = or_else (second_text no_name family.features)
    (first_fault (unlisted family.model.names) family.features)

-- the first fault of the names that a family declares
abbrev pub family_fault : Family → Option Fault
family_fault family = or_else (reserved_fault family) (text_names_fault family)
