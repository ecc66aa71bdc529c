-- Instances of unknown modules, and instances with too few or too many actuals.
use Rattle.std.specs.Prelude.{not, ◌&&◌, nat_eq, if◌then◌else◌, List, length, Option, Some, None, is_some, codes}
use Rattle.std.specs.Str.{bytes_eq}
use Rattle.smv_ast.specs.declared.fault.Fault.{Fault}
use Rattle.smv_ast.specs.declared.fault.Fault.TheVariants as fault
use Rattle.smv_ast.specs.declared.syntax.Span.{Span}
use Rattle.smv_ast.specs.declared.syntax.Expr.{Expr}
use Rattle.smv_ast.specs.declared.program.Declared.{Declared}
use Rattle.smv_ast.specs.declared.program.Declared.TheVariants.{Plain, Instance}
use Rattle.smv_ast.specs.declared.program.Module.{Module}
use Rattle.smv_ast.specs.declared.program.Program.{Program}
use Rattle.smv_meaning.specs.Value.{Name}
use Rattle.smv_meaning.specs.ModuleNumbers.{the_module}
use Rattle.smv_meaning.specs.Items.{Item, Declares, items, program_items}
use Rattle.smv_meaning.specs.Runs.{or_else, first_fault}

-- a declared entity is an instance of an unknown module
abbrev pub unknown_declared : Program → Span → Declared → Option Fault
unknown_declared program at (Plain type) = None
unknown_declared program at (Instance called actuals) = if is_some (the_module program called) then
    None else Some (fault.UnknownModule (Some at) called)

-- an item declares an instance of an unknown module
abbrev pub unknown_instance : Program → Item → Option Fault
unknown_instance program (Declares name what at) = unknown_declared program at what
unknown_instance program item = None

-- no module is called `main`
abbrev pub missing_main : Program → Option Fault
missing_main program = if is_some (the_module program (codes "main")) then None else Some
    (fault.UnknownModule None (codes "main"))

-- the first instance of an unknown module; without one, a missing `main`
abbrev pub unknown_module_fault : Program → Option Fault
unknown_module_fault program = or_else
    (first_fault (unknown_instance program) (program_items program)) (missing_main program)

-- the actuals of an instance and the formals of its module differ in number
abbrev pub count_fault : Span → Name → List Expr → Option Module → Option Fault
count_fault at called actuals None = None
count_fault at called actuals (Some m) = if nat_eq (length actuals) (length m.formals) then None
    else Some (fault.ArgumentCount (Some at) called)

-- the same of a declared entity, by the module's name
abbrev pub miscounted_declared : Program → Span → Declared → Option Fault
miscounted_declared program at (Plain type) = None
miscounted_declared program at (Instance called actuals) = count_fault at called actuals
    (the_module program called)

-- an item declares an instance with a wrong number of actuals
abbrev pub miscounted_instance : Program → Item → Option Fault
miscounted_instance program (Declares name what at) = miscounted_declared program at what
miscounted_instance program item = None

-- `main` has formals
abbrev pub main_formals : Module → Option Fault
main_formals m = if bytes_eq m.name (codes "main") && not (nat_eq (length m.formals) 0) then Some
    (fault.ArgumentCount (Some m.at) (codes "main")) else None

-- the first wrong number of actuals of a module's instances, or `main` with formals
abbrev pub miscounted_within : Program → Module → Option Fault
miscounted_within program m = or_else (main_formals m)
    (first_fault (miscounted_instance program) (items m))

-- the first wrong number of actuals of a program's instances, or `main` with formals
abbrev pub argument_fault : Program → Option Fault
argument_fault program = first_fault (miscounted_within program) program.modules
