-- What a whole text that is to be a model is.
use Rattle.std.proofs.Common.{◌≡◌, ℕ, true, false, [], ◌∙◌, sym, ap}
use Rattle.std.specs.Prelude.{Result, Ok, Err}
use Rattle.smv_ast.specs.declared.fault.Fault.{Fault}
use Rattle.smv_expr.specs.Lexicon.{Bytes, tokens}
use Rattle.smv_expr.specs.Language.{Tokens}
use Rattle.smv_expr.specs.Answer.{Verdict, IsText, AreWithin, IsResultOf, result_of}
use Rattle.smv_expr.specs.Reading.{remaining_of}
use Rattle.smv_expr.specs.Reading.Outcome.{Read}
use Rattle.smv_expr.specs.Limits.Limit.{AnyHeight}
use Rattle.smv_expr.proofs.Answering as answering
use Rattle.smv_parse.specs.declared.program.Reading.{Reading}
use Rattle.smv_parse.specs.Grammar.{program}
use Rattle.smv_parse.specs.Readers.{read_program}
use Rattle.smv_parse.specs.Low.{low_reading}
use Rattle.smv_parse.specs.Answer.{limited_program, ProgramAnswer, Reads, Refuses}
use Rattle.smv_parse.proofs.ProgramRules.{follow_program, program_rule}
use Rattle.smv_parse.proofs.ProgramLimited.{program_obeys}
use Rattle.smv_parse.proofs.ProgramLocal.{program_local}

-- Every list of tokens is read as the grammar and the limits say.
pub verdict : (ts : Tokens) → Verdict program low_reading ts (limited_program ts)
verdict = answering.verdict program follow_program low_reading limited_program (read_program (AnyHeight false)) (read_program (AnyHeight true))
    (program_rule false) (program_rule true) program_obeys program_obeys program_local

-- Each text that is passed is within the limits.
within : (ts : Tokens) → AreWithin program low_reading ts (remaining_of (limited_program ts))
within = answering.within program follow_program low_reading limited_program (read_program (AnyHeight false)) (read_program (AnyHeight true))
    (program_rule false) (program_rule true) program_obeys program_obeys program_local

-- Each text is read.
pub complete : (ts : Tokens) (r : Reading) → IsText program low_reading ts r → limited_program ts ≡ Read r []
complete = answering.complete program follow_program low_reading limited_program (read_program (AnyHeight false)) (program_rule false) program_obeys

pub answered : (file : ℕ) (bytes : Bytes) (result : Result Reading Fault) → IsResultOf file bytes (limited_program (tokens file bytes)) result → ProgramAnswer file bytes result
answered = answering.answered program low_reading limited_program verdict within

-- no file is read and refused
pub reads_or_refuses : (file : ℕ) (bytes : Bytes) (r : Reading) (f : Fault) → Reads file bytes r → Refuses file bytes f → ⊥
reads_or_refuses file bytes r f reads refuses = let both : Err f ≡ Ok r = refuses.is ∙ ap (result_of file bytes) (complete (tokens file bytes) r reads) in cc

same_reading : (r r' : Reading) → Read r [] ≡ Read r' [] → r ≡ r'
same_reading r r' e = cc

-- a file is one model at most
pub reads_once : (file : ℕ) (bytes : Bytes) (r r' : Reading) → Reads file bytes r → Reads file bytes r' → r ≡ r'
reads_once file bytes r r' x y = same_reading r r' (sym (complete (tokens file bytes) r x) ∙ complete (tokens file bytes) r' y)
