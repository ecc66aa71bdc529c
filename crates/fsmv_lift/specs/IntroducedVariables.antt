-- The variables that a feature introduces, with their modules and types, in written order.
use Rattle.std.specs.Prelude.{Bool, ◌&&◌, List, [], ◌∷◌, Option, find}
use Rattle.std.specs.List.{flat_map}
use Rattle.std.specs.Option.{option_map}
use Rattle.std.specs.Str.{bytes_eq}
use Rattle.smv_ast.specs.declared.syntax.SmvType.{SmvType}
use Rattle.smv_ast.specs.declared.program.Declared.{Declared}
use Rattle.smv_ast.specs.declared.program.Declared.TheVariants.{Plain, Instance}
use Rattle.smv_ast.specs.declared.program.Section.{Section}
use Rattle.smv_ast.specs.declared.program.Section.TheVariants as section
use Rattle.smv_ast.specs.declared.feature.Joined.{Joined}
use Rattle.smv_meaning.specs.Value.{Name}

-- a variable of a module, with its type
pub record Introduced : Type 0 where
  pub «module» : Name
  pub name : Name
  pub type : SmvType

-- the variable that a declaration declares in a module; an instance is none
abbrev pub declared_variable : Name → Name → Declared → List Introduced
declared_variable called name (Plain type) = record
    { «module» = called; name = name; type = type } ∷ []
declared_variable called name (Instance inner actuals) = []

-- the variables that a section declares in a module
abbrev pub section_introduces : Name → Section → List Introduced
section_introduces called (section.Vars declarations) = flat_map
    (λ d. declared_variable called d.name d.what) declarations
section_introduces called s = []

-- the variables that a joined part declares in its module
abbrev pub part_introduces : Joined → List Introduced
part_introduces part = flat_map (section_introduces part.«module») part.sections

-- the variables that joined parts declare
abbrev pub introduces : List Joined → List Introduced
introduces = flat_map part_introduces

-- whether it is the variable of a name in a module
abbrev pub is_introduced_as : Name → Name → Introduced → Bool
is_introduced_as called name x = bytes_eq called x.«module» && bytes_eq name x.name

-- the type of the first of these variables that has a name in a module
abbrev pub type_among : List Introduced → Name → Name → Option SmvType
type_among variables called name = option_map (λ x. x.type)
    (find (is_introduced_as called name) variables)

-- the type of an introduced variable; none where these joined parts do not introduce the name
abbrev pub introduced_type : List Joined → Name → Name → Option SmvType
introduced_type joins = type_among (introduces joins)
