-- The text that a call is to write, and its status.
use Rattle.std.specs.Prelude.{◌≡◌, ℕ, List, ◌⊎◌}
use Rattle.smv_ast.specs.PrintedProgram.{printed_program}
use Rattle.smv_ast.specs.declared.program.Program.{Program}
use Rattle.smv_ast.specs.declared.feature.Family.{Family}
use Rattle.smv_ast.specs.declared.fault.Fault.{Fault}
use Rattle.fsmv_outside.specs.Count.{Rose}
use Rattle.fsmv_top.specs.declared.status.Status.{Status}
use Rattle.fsmv_top.specs.declared.status.Status.TheVariants as status
use Rattle.fsmv_top.specs.Words.{Weave, weave_words}
use Rattle.fsmv_top.specs.Input.{Held, Reason, EndsReading}
use Rattle.fsmv_top.specs.Refusals.{refusal_line, read_fault_line, usage_line}
use Rattle.fsmv_top.specs.Weaving.{IsText, HasNoText, IsWoven, IsRefused}

-- The text that is to be written of a family, by status: the text of the product that the word lists, or the line
-- that reports its first fault.
abbrev pub IsFamilyPlan : Family → List ℕ → Status → List ℕ → Type 0
IsFamilyPlan family word status.Good text = (program : Program) × IsText family word program
    × (text ≡ printed_program program)
IsFamilyPlan family word status.Refused text = (f : Fault) × HasNoText family word f
    × (text ≡ refusal_line family.model.names f)
IsFamilyPlan family word _ text = ⊥

-- the files are refused, and the line reports the fault
pub record RefusesFiles (held : Held) (words : Weave) (text : List ℕ) : Type 0 where
  pub names : List (List ℕ)
  pub fault : Fault
  pub refused : IsRefused held words names fault
  pub line : text ≡ refusal_line names fault

-- the file has this number
abbrev pub is_file : ℕ → Reason
is_file number refuses file name = number ≡ file

-- a file could not be read, the count of faults rose, and the line names the file
pub record MissesFile (held : Held) (words : Weave) (before after : ℕ) (text : List ℕ) : Type 0 where
  pub file : ℕ
  pub unread : EndsReading held words (is_file file)
  pub rose : Rose before after
  pub line : text ≡ read_fault_line file

-- The text that `weave` is to write, by status, given the content of the files and their faults before and after.
abbrev pub IsWeavePlan : Held → Weave → ℕ → ℕ → Status → List ℕ → Type 0
IsWeavePlan held words before after status.Good text = IsWoven held words text
IsWeavePlan held words before after status.Refused text = RefusesFiles held words text
IsWeavePlan held words before after status.ReadFault text = MissesFile held words before after text
IsWeavePlan held words before after _ text = ⊥

-- the words are those of `weave`, and this is its plan
pub record IsCommandPlan (words : List (List ℕ)) (held : Held) (before after : ℕ) (s : Status) (text : List ℕ) : Type 0 where
  pub weave : Weave
  pub named : words ≡ weave_words weave
  pub plan : IsWeavePlan held weave before after s text

-- the words are no command, and the text is the usage line
pub record IsUsagePlan (words : List (List ℕ)) (s : Status) (text : List ℕ) : Type 0 where
  pub no_command : (weave : Weave) → words ≡ weave_words weave → ⊥
  pub status : s ≡ status.Usage
  pub line : text ≡ usage_line

-- the text that a call is to write, and its status
abbrev pub IsPlan : List (List ℕ) → Held → ℕ → ℕ → Status → List ℕ → Type 0
IsPlan words held before after s text = IsCommandPlan words held before after s text
    ⊎ IsUsagePlan words s text
