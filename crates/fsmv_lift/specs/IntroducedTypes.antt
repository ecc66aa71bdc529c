-- Introduced variables and their types, as the code represents them.
use Rattle.std.specs.Prelude.{Bool, ◌&&◌, if◌then◌else◌, List, map, Option, Some, None}
use Rattle.std.specs.Option.{option_map}
use Rattle.std.specs.Str.{bytes_eq}
use Rattle.std.specs.HashMap.{HashMap, get_by}
use Rattle.std.specs.declared.hash.FoldHasher.{FoldHasher}
use Rattle.std.specs.declared.hash.BuildHasherDefault.{BuildHasherDefault}
use denote.Ref.{Bor}
use Rattle.smv_ast.specs.declared.syntax.SmvType.{SmvType}
use Rattle.smv_meaning.specs.Value.{Name}
use Rattle.fsmv_lift.specs.declared.introduced.Introduced.{Introduced as Held}
use Rattle.fsmv_lift.specs.IntroducedVariables.{Introduced, is_introduced_as}

-- the variable that references represent
abbrev pub introduced_view : Held → Introduced
introduced_view x = record { «module» = x.«module».now; name = x.name.now; type = x.values.now }

-- the variables that references represent
abbrev pub introduced_views : List Held → List Introduced
introduced_views = map introduced_view

-- a map from names in modules to types
abbrev pub TypeMap : Type 0
TypeMap = HashMap (Bor Name × Bor Name) (Bor SmvType) (BuildHasherDefault FoldHasher)

-- the value of a reference, if there is one
abbrev pub value_of : Option (Bor SmvType) → Option SmvType
value_of = option_map (λ t. t.now)

-- the type that a map has for a name in a module
abbrev pub type_in : TypeMap → Name → Name → Option SmvType
type_in types called name = value_of
    (get_by (λ n. bytes_eq called n.0.now && bytes_eq name n.1.now) types)

-- types with that of one more variable
abbrev pub types_and : Introduced → (Name → Name → Option SmvType) → Name → Name → Option SmvType
types_and x types called name = if is_introduced_as called name x then Some x.type else
    types called name
