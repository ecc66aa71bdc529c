-- The types of the variables of a module. Of several declarations of a name the first counts:
-- formals come before the sections, and a definition declares its name too.
use Rattle.std.specs.Prelude.{ℕ, Bool, false, if◌then◌else◌, List, Option, Some, None, find}
use Rattle.std.specs.List.{list_any}
use Rattle.std.specs.Option.{option_and_then}
use Rattle.std.specs.Str.{bytes_eq}
use Rattle.smv_ast.specs.declared.syntax.SmvType.{SmvType}
use Rattle.smv_ast.specs.declared.program.Declared.{Declared}
use Rattle.smv_ast.specs.declared.program.Declared.TheVariants.{Plain, Instance}
use Rattle.smv_ast.specs.declared.program.Declaration.{Declaration}
use Rattle.smv_ast.specs.declared.program.Section.{Section}
use Rattle.smv_ast.specs.declared.program.Section.TheVariants as section
use Rattle.smv_ast.specs.declared.program.Module.{Module}

-- the type of a declared variable; an instance has none
abbrev pub plain_type : Declared → Option SmvType
plain_type (Plain type) = Some type
plain_type (Instance called actuals) = None

-- the type that the first declaration of a name gives it
abbrev pub declared_type : List ℕ → List Declaration → Option SmvType
declared_type name declarations = option_and_then (λ d. plain_type d.what)
    (find (λ d. bytes_eq d.name name) declarations)

-- whether a section declares a name: as a variable or an instance, or as a definition
abbrev pub declares : List ℕ → Section → Bool
declares name (section.Vars declarations) = list_any
    (λ d. bytes_eq d.name name) declarations
declares name (section.Defines definitions) = list_any (λ d. bytes_eq d.name name) definitions
declares name s = false

-- the type that a section gives a name
abbrev pub type_in : List ℕ → Section → Option SmvType
type_in name (section.Vars declarations) = declared_type name declarations
type_in name s = None

-- the type of the variable of a name, if the module declares one
abbrev pub type_of : List ℕ → Module → Option SmvType
type_of name m = if list_any (λ formal. bytes_eq formal name) m.formals then None else
    option_and_then (type_in name) (find (declares name) m.sections)
