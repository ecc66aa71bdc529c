-- Features whose names are identifiers and whose numbers are within the limit.
use Rattle.std.specs.Prelude.{◌≡◌, Bool, true, ◌&&◌, [], ◌∷◌, map, Option, Some, None}
use Rattle.smv_ast.specs.declared.syntax.SmvType.{SmvType}
use Rattle.smv_ast.specs.declared.syntax.Path.{Path}
use Rattle.smv_ast.specs.declared.feature.Need.{Need}
use Rattle.smv_ast.specs.declared.feature.Joined.{Joined}
use Rattle.smv_ast.specs.declared.feature.Action.{Action}
use Rattle.smv_ast.specs.declared.feature.Action.TheVariants.{Impose, Treat}
use Rattle.smv_ast.specs.declared.feature.Change.{Change}
use Rattle.smv_ast.specs.declared.feature.Feature.{Feature}
use Rattle.smv_expr.specs.Lexicon.{Bytes}
use Rattle.smv_expr.specs.RoundTrip.{is_name, is_printable, all_are, some_are}
use Rattle.smv_parse.specs.RoundTrip.{is_printable_type, is_printable_section}
use Rattle.feature_parse.specs.declared.features.FeatureReading.{FeatureReading}

-- a type, if there is one
abbrev pub is_printable_wanted : Option SmvType → Bool
is_printable_wanted None = true
is_printable_wanted (Some type) = is_printable_type type

-- the name of a need, which is empty where the module alone is required
abbrev pub is_required_name : Bytes → Bool
is_required_name [] = true
is_required_name (b ∷ more) = is_name (b ∷ more)

-- the module, the name and the type
abbrev pub is_printable_need : Need → Bool
is_printable_need need = is_name need.«module»
    && (is_required_name need.name && is_printable_wanted need.wanted)

-- the module, and the sections that it gets
abbrev pub is_printable_joined : Joined → Bool
is_printable_joined joined = is_name joined.«module»
    && all_are (map is_printable_section joined.sections)

-- the names of a path
abbrev pub is_printable_path : Path → Bool
is_printable_path path = some_are (map is_name path.names)

-- the target and the right side
abbrev pub is_printable_action : Action → Bool
is_printable_action (Impose left name right) = is_name name && is_printable right
is_printable_action (Treat path right) = is_printable_path path && is_printable right

-- the module, the condition and the action
abbrev pub is_printable_change : Change → Bool
is_printable_change change = is_name change.«module»
    && (is_printable change.cond && is_printable_action change.action)

-- the name, and all parts
abbrev pub is_printable_feature : Feature → Bool
is_printable_feature feature = is_name feature.name
    && (all_are (map is_printable_need feature.needs)
    && (all_are (map is_printable_joined feature.joins)
    && all_are (map is_printable_change feature.changes)))

-- each feature of the file
abbrev pub PrintableFeatures : FeatureReading → Type 0
PrintableFeatures reading = all_are (map is_printable_feature reading.features) ≡ true
