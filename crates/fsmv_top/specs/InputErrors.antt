-- The errors of reading files, step by step.
use Rattle.std.specs.Prelude.{◌≡◌, ℕ, ◌≤◌, Option, length}
use Rattle.smv_ast.specs.declared.fault.Fault.{Fault}
use Rattle.smv_expr.specs.Lexicon.{Bytes}
use Rattle.fsmv_outside.specs.Count.{Rose}
use Rattle.fsmv_top.specs.declared.input.InputError.{InputError}
use Rattle.fsmv_top.specs.declared.input.InputError.TheVariants as error
use Rattle.fsmv_top.specs.Input.{Held, Saying, Reason, most_bytes, MayHold, IsTooLong, IsRefusedFile}

-- the file has these bytes
pub record IsRead (given : Option Bytes) (bytes : Bytes) : Type 0 where
  pub held : MayHold given bytes
  pub within : length bytes ≤ most_bytes

-- the file of this number was not read, and the count of faults rose
pub record IsUnreadFile (file before after number : ℕ) : Type 0 where
  pub file_is : number ≡ file
  pub rose : Rose before after

-- the file has no bytes to read: it is too long, or it cannot be read
abbrev pub FailsReading : ℕ → Option Bytes → ℕ → ℕ → InputError → Type 0
FailsReading file given before after (error.Refused f) = IsTooLong file given f
FailsReading file given before after (error.Unread number) = IsUnreadFile file before after number
FailsReading file given before after error.NoMemory = Unit {0}

-- the bytes are refused with this fault
abbrev pub FailsBytes : Saying Fault → ℕ → Bytes → InputError → Type 0
FailsBytes refuses file bytes (error.Refused f) = refuses file bytes f
FailsBytes refuses file bytes (error.Unread number) = ⊥
FailsBytes refuses file bytes error.NoMemory = Unit {0}

-- the file says nothing: it cannot be read, or it is refused
abbrev pub FailsFile : Saying Fault → ℕ → Option Bytes → ℕ → ℕ → InputError → Type 0
FailsFile refuses file given before after (error.Refused f) = IsRefusedFile refuses file given f
FailsFile refuses file given before after (error.Unread number) = IsUnreadFile file before after number
FailsFile refuses file given before after error.NoMemory = Unit {0}

-- the same, of a file by its name
abbrev pub fails_at : Held → ℕ → ℕ → InputError → Reason
fails_at held before after e refuses file name = FailsFile refuses file (held name) before after e
