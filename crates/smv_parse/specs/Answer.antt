-- What is answered of a text that is to be a model.
use Rattle.std.specs.Prelude.{ℕ, Result, Err}
use Rattle.smv_ast.specs.declared.fault.Fault.{Fault}
use Rattle.smv_expr.specs.Lexicon.{Bytes, tokens}
use Rattle.smv_expr.specs.Reading.{Reader}
use Rattle.smv_expr.specs.Answer.{Answers, Reports, IsText}
use Rattle.smv_parse.specs.declared.program.Reading.{Reading}
use Rattle.smv_parse.specs.Grammar.{program}
use Rattle.smv_parse.specs.Readers.{the_limit, read_program}
use Rattle.smv_parse.specs.Low.{low_reading}

-- the reader of models within the limits
abbrev pub limited_program : Reader Reading
limited_program = read_program the_limit

-- what is answered of the bytes of a file, unless memory runs out
abbrev pub ProgramAnswer : ℕ → Bytes → Result Reading Fault → Type 0
ProgramAnswer = Answers program low_reading limited_program

-- the bytes of the file are this model and no other, within the limits of nesting
abbrev pub Reads : ℕ → Bytes → Reading → Type 0
Reads file bytes reading = IsText program low_reading (tokens file bytes) reading

-- the bytes of the file are refused with this fault
abbrev pub Refuses : ℕ → Bytes → Fault → Type 0
Refuses file bytes f = Reports program low_reading limited_program file bytes (Err f)
