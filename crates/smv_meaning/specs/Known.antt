-- The known paths of a module.
use Rattle.std.specs.Prelude.{◌≡◌, List, ◌∷◌, IsSome}
use Rattle.std.specs.List.{Contains}
use Rattle.smv_ast.specs.declared.program.Program.{Program}
use Rattle.smv_meaning.specs.Value.{Name}
use Rattle.smv_meaning.specs.Paths.{resolve}
use Rattle.smv_meaning.specs.Instances.{Instance, module_named, lookup, called_at, instances, binding_at}

-- a path is known in a module if its first name is declared there and it resolves to a declaration
-- in each instance of the module
pub record IsKnown (program : Program) (called : Name) (path : List Name) : Type 0 where
  pub first : (name : Name) (more : List Name) → path ≡ name ∷ more
      → IsSome (lookup (module_named program called) name)
  pub each : (instance : Instance) → Contains (instances program) instance → called_at instance
      ≡ called → IsSome (resolve (binding_at program) instance path)
