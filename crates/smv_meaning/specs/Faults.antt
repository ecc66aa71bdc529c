-- The result of a check: its first fault.
use Rattle.std.specs.Prelude.{◌≡◌, Option, Some, None, Result, Ok, Err}
use Rattle.smv_ast.specs.declared.fault.Fault.{Fault}
use Rattle.smv_ast.specs.declared.fault.Fault.TheVariants as fault

-- Ok exactly where there is no fault, else the first fault. `NoMemory` may come at any time.
abbrev pub ReportsFirst : {A : Type 0} → Option Fault → Result A Fault → Type 0
ReportsFirst first (Ok a) = first ≡ None
ReportsFirst first (Err fault.NoMemory) = Unit {0}
ReportsFirst first (Err f) = first ≡ Some f
