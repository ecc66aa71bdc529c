-- The names that the features of a family introduce, and those among them that clash. A feature may
-- introduce a name into a module only where neither the base nor any other declaration of the
-- family declares it there, and where it is no symbol.
use Rattle.std.specs.Prelude.{Bool, ◌||◌, ◌&&◌, nat_lt, List, [], ◌∷◌, ◌++◌, map, Option, Some, None}
use Rattle.std.specs.List.{flat_map, list_any, count_by}
use Rattle.std.specs.Str.{bytes_eq}
use Rattle.smv_ast.specs.declared.syntax.SmvType.{SmvType}
use Rattle.smv_ast.specs.declared.program.Declared.{Declared}
use Rattle.smv_ast.specs.declared.program.Declared.TheVariants.{Plain, Instance}
use Rattle.smv_ast.specs.declared.program.Section.{Section}
use Rattle.smv_ast.specs.declared.program.Section.TheVariants as section
use Rattle.smv_ast.specs.declared.program.Program.{Program}
use Rattle.smv_ast.specs.declared.feature.Need.{Need}
use Rattle.smv_ast.specs.declared.feature.Joined.{Joined}
use Rattle.smv_ast.specs.declared.feature.Feature.{Feature}
use Rattle.smv_meaning.specs.Value.{Name}
use Rattle.smv_meaning.specs.Values.{is_symbol}
use Rattle.smv_meaning.specs.Symbols.{type_symbols, declared_symbols}
use Rattle.smv_names.specs.Unknown.{declared_in}

-- a name in a module: the module's name, then the name
abbrev pub ModuleName : Type 0
ModuleName = Name × Name

-- whether it is this name in this module
abbrev pub is_name_in : Name → Name → ModuleName → Bool
is_name_in called name n = bytes_eq called n.0 && bytes_eq name n.1

-- ---- names that are introduced

-- the names that a section declares in a module: variables, instances and definitions
abbrev pub section_names : Name → Section → List ModuleName
section_names called (section.Vars declarations) = map (λ d. (called, d.name)) declarations
section_names called (section.Defines definitions) = map (λ d. (called, d.name)) definitions
section_names called s = []

-- the names that a joined part declares in its module
abbrev pub part_names : Joined → List ModuleName
part_names part = flat_map (section_names part.«module») part.sections

-- the names that a feature introduces
abbrev pub feature_names : Feature → List ModuleName
feature_names f = flat_map part_names f.joins

-- the names that the features of a family introduce, one for each declaration
abbrev pub introduced_names : List Feature → List ModuleName
introduced_names = flat_map feature_names

-- whether a name in a module stands in the list
abbrev pub is_among : List ModuleName → Name → Name → Bool
is_among names called name = list_any (is_name_in called name) names

-- whether a name in a module stands in the list more than once
abbrev pub is_repeated : List ModuleName → Name → Name → Bool
is_repeated names called name = nat_lt 1 (count_by (is_name_in called name) names)

-- ---- variables that are introduced

-- the variable that a declaration declares in a module; an instance is none
abbrev pub variable_of : Name → Name → Declared → List ModuleName
variable_of called name (Plain type) = (called, name) ∷ []
variable_of called name (Instance inner actuals) = []

-- the variables that a section declares in a module
abbrev pub section_variables : Name → Section → List ModuleName
section_variables called (section.Vars declarations) = flat_map
    (λ d. variable_of called d.name d.what) declarations
section_variables called s = []

-- the variables that a joined part declares in its module
abbrev pub part_variables : Joined → List ModuleName
part_variables part = flat_map (section_variables part.«module») part.sections

-- the variables that joined parts declare
abbrev pub introduced_variables : List Joined → List ModuleName
introduced_variables = flat_map part_variables

-- ---- symbols

-- the symbols of the type that a need asks for
abbrev pub wanted_symbols : Option SmvType → List Name
wanted_symbols None = []
wanted_symbols (Some type) = type_symbols type

-- the symbols of the types of a section
abbrev pub section_symbols : Section → List Name
section_symbols (section.Vars declarations) = flat_map (λ d. declared_symbols d.what) declarations
section_symbols s = []

-- the symbols of the types of a joined part
abbrev pub part_symbols : Joined → List Name
part_symbols part = flat_map section_symbols part.sections

-- the symbols of the types under REQUIRE
abbrev pub needs_symbols : List Need → List Name
needs_symbols = flat_map (λ need. wanted_symbols need.wanted)

-- the symbols of the types of joined parts
abbrev pub parts_symbols : List Joined → List Name
parts_symbols = flat_map part_symbols

-- the symbols of the types of a feature: those under REQUIRE, and those of introduced variables
abbrev pub feature_symbols : Feature → List Name
feature_symbols f = needs_symbols f.needs ++ parts_symbols f.joins

-- the symbols of the types of features
abbrev pub symbols_of_features : List Feature → List Name
symbols_of_features = flat_map feature_symbols

-- whether a name is a symbol of a type in the family
abbrev pub is_family_symbol : Program → List Feature → Name → Bool
is_family_symbol base features name = is_symbol base name
    || list_any (λ symbol. bytes_eq symbol name) (symbols_of_features features)

-- ---- clashes

-- whether the family may not introduce a name into a module: the base declares it there, the family
-- introduces it there more than once, or it is a symbol
abbrev pub clashes : Program → List Feature → Name → Name → Bool
clashes base features called name = declared_in base called name
    || (is_repeated (introduced_names features) called name || is_family_symbol base features name)
