-- Names that begin with `fsmv_`. They are kept for the lift, and no base and no feature may declare one.
use Rattle.std.specs.Prelude.{ℕ, List, Option, Some, None, if◌then◌else◌}
use Rattle.smv_ast.specs.declared.syntax.Span.{Span}
use Rattle.smv_ast.specs.declared.syntax.SmvType.{SmvType}
use Rattle.smv_ast.specs.declared.syntax.SmvType.TheVariants as type
use Rattle.smv_ast.specs.declared.program.Declared.{Declared}
use Rattle.smv_ast.specs.declared.program.Declared.TheVariants.{Plain, Instance}
use Rattle.smv_ast.specs.declared.program.Declaration.{Declaration}
use Rattle.smv_ast.specs.declared.program.Definition.{Definition}
use Rattle.smv_ast.specs.declared.program.Section.{Section}
use Rattle.smv_ast.specs.declared.program.Section.TheVariants as section
use Rattle.smv_ast.specs.declared.program.Module.{Module}
use Rattle.smv_ast.specs.declared.feature.Need.{Need}
use Rattle.smv_ast.specs.declared.feature.Joined.{Joined}
use Rattle.smv_ast.specs.declared.feature.Feature.{Feature}
use Rattle.smv_ast.specs.declared.feature.Family.{Family}
use Rattle.smv_ast.specs.declared.fault.Fault.{Fault}
use Rattle.smv_ast.specs.declared.fault.Fault.TheVariants as fault
use Rattle.smv_meaning.specs.Runs.{or_else, first_fault}
use Rattle.feature_model.specs.NameFaults.{is_reserved}

-- the fault of a name that an item at the span declares
abbrev pub reserved_name : Span → List ℕ → Option Fault
reserved_name at name = if is_reserved name then Some (fault.ReservedName (Some at) name) else None

-- the first reserved symbol of a type, which stands in an item at the span
abbrev pub reserved_in_type : Span → SmvType → Option Fault
reserved_in_type at (type.Symbols names) = first_fault (reserved_name at) names
reserved_in_type at other = None

-- the first reserved symbol of a variable's type
abbrev pub reserved_in_declared : Span → Declared → Option Fault
reserved_in_declared at (Plain type) = reserved_in_type at type
reserved_in_declared at (Instance called actuals) = None

-- a variable or an instance: its name, then the symbols of its type
abbrev pub reserved_in_declaration : Declaration → Option Fault
reserved_in_declaration d = or_else (reserved_name d.at d.name) (reserved_in_declared d.at d.what)

-- a definition declares its name
abbrev pub reserved_definition : Definition → Option Fault
reserved_definition d = reserved_name d.at d.name

-- only VAR and DEFINE declare names
abbrev pub reserved_in_section : Section → Option Fault
reserved_in_section (section.Vars declarations) = first_fault reserved_in_declaration declarations
reserved_in_section (section.Defines definitions) = first_fault reserved_definition definitions
reserved_in_section other = None

-- a module: its name, its formals, its sections
abbrev pub reserved_in_module : Module → Option Fault
reserved_in_module m = or_else (reserved_name m.at m.name)
    (or_else (first_fault (reserved_name m.at) m.formals)
    (first_fault reserved_in_section m.sections))

-- the symbols of the type that a feature requires of a variable
abbrev pub reserved_in_wanted : Span → Option SmvType → Option Fault
reserved_in_wanted at None = None
reserved_in_wanted at (Some type) = reserved_in_type at type

-- what a feature requires declares nothing, but its type has symbols
abbrev pub reserved_in_need : Need → Option Fault
reserved_in_need n = reserved_in_wanted n.at n.wanted

-- what a feature introduces
abbrev pub reserved_in_joined : Joined → Option Fault
reserved_in_joined j = first_fault reserved_in_section j.sections

-- a feature: its name, what it requires, what it introduces
abbrev pub reserved_in_feature : Feature → Option Fault
reserved_in_feature f = or_else (reserved_name f.at f.name)
    (or_else (first_fault reserved_in_need f.needs) (first_fault reserved_in_joined f.joins))

-- the first reserved name of a family, in the order of the files: of its base, then of its features
abbrev pub reserved_fault : Family → Option Fault
reserved_fault family = or_else (first_fault reserved_in_module family.base.modules)
    (first_fault reserved_in_feature family.features)
