-- The first fault of the names of a program.
use Rattle.std.specs.Prelude.{nat_lt, if◌then◌else◌, length, Option, Some, None}
use Rattle.smv_ast.specs.declared.fault.Fault.{Fault}
use Rattle.smv_ast.specs.declared.fault.Fault.TheVariants as fault
use Rattle.smv_ast.specs.declared.program.Program.{Program}
use Rattle.smv_meaning.specs.Instances.{instances}
use Rattle.smv_meaning.specs.Runs.{or_else}
use Rattle.smv_names.specs.Duplicates.{duplicate_fault}
use Rattle.smv_names.specs.Modules.{unknown_module_fault, argument_fault}
use Rattle.smv_names.specs.Recursion.{recursion_fault}
use Rattle.smv_names.specs.Unknown.{unknown_name_fault}

-- the program has more than 65,536 instances
abbrev pub size_fault : Program → Option Fault
size_fault program = if nat_lt 65536 (length (instances program)) then Some (fault.TooLarge None)
    else None

-- too many instances, else the first unknown name
abbrev pub instance_fault : Program → Option Fault
instance_fault program = or_else (size_fault program) (unknown_name_fault program)

-- the first fault of modules, by their names and instances
abbrev pub module_fault : Program → Option Fault
module_fault program = or_else (unknown_module_fault program)
    (or_else (argument_fault program) (recursion_fault program))

-- the first fault of the names of a program
abbrev pub names_fault : Program → Option Fault
names_fault program = or_else (duplicate_fault program)
    (or_else (module_fault program) (instance_fault program))
