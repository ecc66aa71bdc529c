-- Results that are defined, but for want of memory.
use Rattle.std.specs.Prelude.{◌≡◌, Option, Some, None, Result, Ok, Err}
use Rattle.smv_ast.specs.declared.fault.Fault.{Fault}
use Rattle.smv_ast.specs.declared.fault.Fault.TheVariants as fault

-- the fault, if there is one, else the value
abbrev pub unless_fault : {A : Type 0} → Option Fault → A → Result A Fault
unless_fault None value = Ok value
unless_fault (Some f) value = Err f

-- The result is the defined one. Want of memory may come in its place at any time.
abbrev pub Answers : {A : Type 0} → Result A Fault → Result A Fault → Type 0
Answers defined (Ok value) = defined ≡ Ok value
Answers defined (Err fault.NoMemory) = Unit {0}
Answers defined (Err f) = defined ≡ Err f
