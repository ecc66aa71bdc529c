-- The target of a TREAT: a path that is known in the module and leads to an instance nowhere.
use Rattle.std.specs.Prelude.{ℕ, Bool, true, false, not, ◌&&◌, ◌||◌, List, Option, Some, None, is_some, codes, slice_get}
use Rattle.std.specs.List.{list_all}
use Rattle.std.specs.Str.{bytes_eq}
use Rattle.smv_ast.specs.declared.program.Program.{Program}
use Rattle.smv_meaning.specs.declared.table.Link.{Link}
use Rattle.smv_meaning.specs.Value.{Name}
use Rattle.smv_meaning.specs.Paths.{QualifiedName, Aliases, aliases, resolve}
use Rattle.smv_meaning.specs.Instances.{Instance, module_named, lookup, called_at, instances, binding_at}

-- whether the module declares a name
abbrev pub declared_in : Program → Name → Name → Bool
declared_in program called name = is_some (lookup (module_named program called) name)

-- a first name passes the test, if there is one
abbrev pub first_passes : (Name → Bool) → Option Name → Bool
first_passes test None = true
first_passes test (Some name) = test name

-- whether the module declares the first name of a path
abbrev pub begins_in : Program → Name → List Name → Bool
begins_in program called path = first_passes (declared_in program called) (slice_get path 0)

-- whether a path resolved to a declaration that is no alias of an instance
abbrev pub is_value : {P : Type 0} → Aliases P → Option (QualifiedName P) → Bool
is_value alias None = false
is_value alias (Some qualified) = not (is_some (alias qualified))

-- whether a path of an instance resolves to a declaration that is neither an instance nor a formal
-- that stands for one
abbrev pub resolves_to_value : Program → List Name → Instance → Bool
resolves_to_value program path instance = is_value (aliases (binding_at program))
    (resolve (binding_at program) instance path)

-- the same, if the instance is of the module
abbrev pub resolves_if_of : Program → Name → List Name → Instance → Bool
resolves_if_of program called path instance = not (bytes_eq (called_at instance) called)
    || resolves_to_value program path instance

-- whether a path is known in the module, and in no instance of it leads to an instance
abbrev pub is_target : Program → Name → List Name → Bool
is_target program called path = begins_in program called path
    && list_all (resolves_if_of program called path) (instances program)

-- ---- by number

-- whether the slot that a path resolved to is no alias of an instance
abbrev pub is_value_slot : (ℕ → Option ℕ) → Option ℕ → Bool
is_value_slot alias None = false
is_value_slot alias (Some k) = not (is_some (alias k))

-- the name of the module of an instance with this link
abbrev pub called_by_link : Option Link → Name
called_by_link None = codes "main"
called_by_link (Some link) = link.called.now
