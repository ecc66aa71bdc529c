-- Files and a sink in memory.
use Rattle.std.specs.Prelude.{ℕ, Bool, true, false, List, [], ◌∷◌, map, Option, Some, None, Result, Err, if◌then◌else◌, String, string_bytes}
use Rattle.std.specs.Option.{unwrap_or}
use Rattle.std.specs.Str.{bytes_eq}
use Rattle.std.specs.Global.{Vec}
use Rattle.std.specs.declared.alloc.Global.{Global}
use Rattle.fsmv_outside.specs.Plan.{Plan}
use Rattle.fsmv_outside.specs.declared.files.FilesFault.{FilesFault}
use Rattle.fsmv_outside.specs.declared.files.FilesFault.TheVariants.{Failed as FileFailed}
use Rattle.fsmv_outside.specs.declared.sink.SinkFault.{SinkFault}
use Rattle.fsmv_outside.specs.declared.sink.SinkFault.TheVariants.{Failed as SinkFailed}

-- a file: its name, and its content
abbrev pub Entry : Type 0
Entry = List ℕ × List ℕ

-- the content of the first file of the name
abbrev pub content_of : List Entry → List ℕ → Option (List ℕ)
content_of [] name = None
content_of (entry ∷ entries) name = if bytes_eq entry.0 name then Some entry.1 else content_of
    entries name

-- the content of the first file of the name; an unknown name is an empty file
abbrev pub content_or_empty : List Entry → List ℕ → List ℕ
content_or_empty entries name = unwrap_or (content_of entries name) []

-- the files as names and contents
abbrev pub listed : List (String Global × Vec ℕ) → List Entry
listed files = map (λ file. (string_bytes file.0, file.1.items)) files

-- files with a plan of faults
pub record PlannedFiles : Type 0 where
  pub entries : List Entry
  pub plan : Plan

-- a sink with a plan of faults
pub record PlannedSink : Type 0 where
  pub content : List ℕ
  pub plan : Plan

-- the answer of a read is Failed
abbrev pub read_failed : Result (Unit {0}) FilesFault → Bool
read_failed (Err FileFailed) = true
read_failed _ = false

-- the answer of a put is Failed
abbrev pub put_failed : Result (Unit {0}) SinkFault → Bool
put_failed (Err SinkFailed) = true
put_failed _ = false
