-- Paths that are neither known nor a symbol.
use Rattle.std.specs.Prelude.{◌≡◌, ◌⊎◌, IsTrue, Bool, true, false, not, ◌&&◌, ◌||◌, if◌then◌else◌, List, [], ◌∷◌, Option, Some, None, is_some}
use Rattle.std.specs.List.{list_all}
use Rattle.smv_ast.specs.declared.fault.Fault.{Fault}
use Rattle.smv_ast.specs.declared.fault.Fault.TheVariants as fault
use Rattle.smv_ast.specs.declared.syntax.Span.{Span}
use Rattle.smv_ast.specs.declared.syntax.Path.{Path}
use Rattle.smv_ast.specs.declared.syntax.Expr.{Expr}
use Rattle.smv_ast.specs.declared.program.Module.{Module}
use Rattle.smv_ast.specs.declared.program.Program.{Program}
use Rattle.smv_meaning.specs.Value.{Name}
use Rattle.smv_meaning.specs.Paths.{resolve}
use Rattle.smv_meaning.specs.Instances.{Instance, module_named, lookup, instances, binding_at}
use Rattle.smv_meaning.specs.Known.{IsKnown}
use Rattle.smv_meaning.specs.Items.{Item, Assigns, exprs_of, items}
use Rattle.smv_meaning.specs.Values.{is_symbol}
use Rattle.smv_meaning.specs.Mentions.{paths_of}
use Rattle.smv_meaning.specs.Runs.{or_else, first_fault, path_text}
use Rattle.smv_meaning.specs.Slots.{AreAliases}
use Rattle.smv_meaning.specs.Checking.{IsTableOfProgram}
use Rattle.smv_meaning.specs.NameSets.{in_set}
use Rattle.smv_names.specs.Rows.{is_of, AreRowsOf, AreRowsByModule}
use Rattle.smv_names.specs.declared.known.Resolver.{Resolver}
use Rattle.smv_names.specs.declared.known.ModuleScope.{ModuleScope}

-- ---- known paths

-- whether the module of a name declares a name
abbrev pub declared_in : Program → Name → Name → Bool
declared_in program called name = is_some (lookup (module_named program called) name)

-- whether the module declares the first name of a path
abbrev pub begins_in : Program → Name → List Name → Bool
begins_in program called [] = true
begins_in program called (name ∷ more) = declared_in program called name

-- whether a path of an instance resolves to a declaration
abbrev pub resolves_in : Program → List Name → Instance → Bool
resolves_in program path instance = is_some (resolve (binding_at program) instance path)

-- whether a path of an instance resolves to a declaration, if the instance is of the module
abbrev pub resolves_if_of : Program → Name → List Name → Instance → Bool
resolves_if_of program called path instance = not (is_of called instance)
    || resolves_in program path instance

-- whether a path resolves to a declaration in each instance of the module
abbrev pub is_resolved_in_each : Program → Name → List Name → Bool
is_resolved_in_each program called path = list_all (resolves_if_of program called path)
    (instances program)

-- whether a path is known in a module
abbrev pub is_known_path : Program → Name → List Name → Bool
is_known_path program called path = begins_in program called path
    && is_resolved_in_each program called path

-- whether a path is a single name that is a symbol of a type
abbrev pub is_symbol_path : Program → List Name → Bool
is_symbol_path program (name ∷ []) = is_symbol program name
is_symbol_path program path = false

-- whether a path of a module is known or a symbol
abbrev pub is_resolved : Program → Name → List Name → Bool
is_resolved program called path = is_known_path program called path || is_symbol_path program path

-- a path is known in a module or a symbol of the program
abbrev pub Resolves : Program → Name → List Name → Type 0
Resolves program called path = IsKnown program called path ⊎ IsTrue (is_symbol_path program path)

-- ---- the rule

-- the fault of an unknown path
abbrev pub unknown_path : Program → Name → Path → Option Fault
unknown_path program called path = if is_resolved program called path.names then None else Some
    (fault.UnknownName (Some path.at) (path_text path.names))

-- the first unknown path of an expression
abbrev pub unknown_in : Program → Name → Expr → Option Fault
unknown_in program called e = first_fault (unknown_path program called) (paths_of e)

-- the fault of a left side that the module does not declare
abbrev pub unknown_left : Program → Name → Span → Name → Option Fault
unknown_left program called at name = if declared_in program called name then None else Some
    (fault.UnknownName (Some at) name)

-- the fault of the left side of an item, if it has one
abbrev pub unknown_target : Program → Name → Item → Option Fault
unknown_target program called (Assigns left name right at) = unknown_left program called at name
unknown_target program called item = None

-- the first unknown name of an item, a left side before the paths of its expressions
abbrev pub unknown_name : Program → Name → Item → Option Fault
unknown_name program called item = or_else (unknown_target program called item)
    (first_fault (unknown_in program called) (exprs_of item))

-- the first unknown name of a module
abbrev pub unknown_within : Program → Module → Option Fault
unknown_within program m = first_fault (unknown_name program m.name) (items m)

-- the first unknown path or left side of the program
abbrev pub unknown_name_fault : Program → Option Fault
unknown_name_fault program = first_fault (unknown_within program) program.modules

-- ---- the tables of the code

-- the tables of a program are correct: its instance table, the aliases, the instances of each
-- module, and the symbols
pub record IsResolver (k : Resolver) : Type 0 where
  pub right : IsTableOfProgram k.program.now k.table.now
  pub aliases : AreAliases k.table.now k.aliases.now
  pub rows : AreRowsByModule k.program.now k.table.now k.rows.now
  pub symbols : in_set k.symbols.now ≡ is_symbol k.program.now

-- the program of a module's scope
abbrev pub scope_program : ModuleScope → Program
scope_program s = s.known.now.program.now

-- the tables of the program are correct, the set has the names of the module, and the rows are its
-- instances
pub record IsModuleScope (s : ModuleScope) : Type 0 where
  pub known : IsResolver s.known.now
  pub declared : in_set s.declared.now ≡ declared_in (scope_program s) s.called.now
  pub rows : AreRowsOf (scope_program s) s.known.now.table.now s.called.now s.rows.now
