-- The tables by which the names of a model are looked up.
use Rattle.std.specs.Prelude.{◌≡◌, Bool, map, find, is_some}
use Rattle.smv_ast.specs.declared.program.Program.{Program}
use Rattle.smv_meaning.specs.Value.{Name}
use Rattle.smv_meaning.specs.NameSets.{in_set, no_name, and_names}
use Rattle.smv_meaning.specs.Scopes.{scope_view, scopes_of, IsModuleIndex}
use Rattle.smv_names.specs.Unknown.{IsResolver}
use Rattle.integrate_impose.specs.Impose.{is_named}
use Rattle.integrate.specs.declared.lookups.Lookups.{Lookups}

-- whether the model has a module of a name
abbrev pub has_module : Program → Name → Bool
has_module p called = is_some (find (is_named called) p.modules)

-- the same, of the set of the names of its modules
abbrev pub among_modules : Program → Name → Bool
among_modules p = and_names no_name (map (λ m. m.name) p.modules)

-- the model of the tables
abbrev pub program_of : Lookups → Program
program_of t = t.resolver.now.program.now

-- the tables of a model are correct
pub record AreLookups (t : Lookups) : Type 0 where
  pub resolver : IsResolver t.resolver.now
  pub scopes : map scope_view t.scopes.now ≡ scopes_of (program_of t)
  pub numbers : IsModuleIndex t.scopes.now t.numbers.now
  pub modules : in_set t.modules.now ≡ has_module (program_of t)
