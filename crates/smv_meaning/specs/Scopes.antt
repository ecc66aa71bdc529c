-- Modules with their names, looked up by name.
use Rattle.std.specs.Prelude.{◌≡◌, ℕ, List, [], map, find, slice_get, Option, Some, None}
use Rattle.std.specs.Str.{bytes_eq}
use Rattle.smv_ast.specs.declared.program.Module.{Module}
use Rattle.smv_ast.specs.declared.program.Program.{Program}
use Rattle.smv_meaning.specs.declared.names.Names.{Names}
use Rattle.smv_meaning.specs.declared.scope.Scope.{Scope as HeldScope}
use Rattle.smv_meaning.specs.Instances.{Entry, entries}
use Rattle.smv_meaning.specs.Entries.{entries_view}
use Rattle.smv_meaning.specs.Indices.{Numbers, number_held}
use Rattle.smv_meaning.specs.Value.{Name, and_then}

-- a module with its names
pub record Scope : Type 0 where
  pub name : Name
  pub entries : List Entry

-- the scope that a Rust value represents
abbrev pub scope_view : HeldScope → Scope
scope_view s = record { name = s.name.now; entries = entries_view s.names.entries }

-- a module of a program with its names
abbrev pub scope_of : Module → Scope
scope_of m = record { name = m.name; entries = entries m }

-- the modules of a program with their names
abbrev pub scopes_of : Program → List Scope
scopes_of program = map scope_of program.modules

-- the names of the module that was found, none where there is none
abbrev pub entries_found : Option Scope → List Entry
entries_found None = []
entries_found (Some s) = s.entries

-- the names of the first module of a name
abbrev pub entries_in : List Scope → Name → List Entry
entries_in scopes name = entries_found (find (λ s. bytes_eq s.name name) scopes)

-- ---- by number

-- the entries of the names that were found; none where there are none
abbrev pub names_found : Option Names → List Entry
names_found None = []
names_found (Some names) = entries_view names.entries

-- the names of the module that was found; none where there is none
abbrev pub scope_found : Option HeldScope → List Entry
scope_found None = []
scope_found (Some s) = entries_view s.names.entries

-- the names of the module of this number, if there is one
abbrev pub names_numbered : List HeldScope → Option ℕ → List Entry
names_numbered scopes number = scope_found (and_then number (slice_get scopes))

-- the names of the module whose number a name maps to
abbrev pub names_by : List HeldScope → Numbers → Name → List Entry
names_by scopes numbers name = names_numbered scopes (number_held numbers name)

-- each name maps to the first module of that name
abbrev pub IsModuleIndex : List HeldScope → Numbers → Type 0
IsModuleIndex scopes numbers = (name : Name) → names_by scopes numbers name
    ≡ entries_in (map scope_view scopes) name
