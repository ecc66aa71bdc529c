use Rattle.std.proofs.Common.{subst}
use Rattle.smv_expr.specs.Lexicon.{tokens}
use Rattle.smv_expr.specs.Language.{Tokens}
use Rattle.smv_expr.specs.Reading.{Gives}
use Rattle.smv_parse.specs.Answer.{limited_program}
use Rattle.smv_expr.proofs.Answering.{text_answered}
use Rattle.smv_parse.proofs.ProgramAnswering.{answered, complete}
use Rattle.smv_parse.proofs.ReadModels.{answer_printable}
use Rattle.smv_parse.proofs.RoundTripAnswers.{answers_round_trip}
use Rattle.smv_parse.proofs.program.read_program.Goals as goal

pub returns-clause-answer : goal.returns-clause-answer
returns-clause-answer c = answered c.args.file c.args.bytes.now c.answer.result (c.answer.ensures (limited_program (tokens c.args.file c.args.bytes.now))
    (subst (λ (ts : Tokens). Gives (limited_program ts) c.program-found.result c.program-found.new.tokens) c.new-tokens.ensures c.program-found.ensures))

pub returns-clause-complete : goal.returns-clause-complete
returns-clause-complete c r reads = text_answered c.args.file c.args.bytes.now (limited_program (tokens c.args.file c.args.bytes.now)) r c.answer.result (complete (tokens c.args.file c.args.bytes.now) r reads)
    (c.answer.ensures (limited_program (tokens c.args.file c.args.bytes.now))
    (subst (λ (ts : Tokens). Gives (limited_program ts) c.program-found.result c.program-found.new.tokens) c.new-tokens.ensures c.program-found.ensures))

pub returns-clause-round_trip : goal.returns-clause-round_trip
returns-clause-round_trip c p printable same = answers_round_trip c.args.file c.args.bytes.now p c.answer.result printable same (returns-clause-answer c)

pub returns-clause-printable : goal.returns-clause-printable
returns-clause-printable c = answer_printable c.args.file c.args.bytes.now c.answer.result (returns-clause-answer c)
