use Rattle.std.proofs.Common.{subst}
use Rattle.smv_expr.specs.Lexicon.{tokens}
use Rattle.smv_expr.specs.Language.{Tokens}
use Rattle.smv_expr.specs.Reading.{Gives}
use Rattle.smv_expr.specs.ExprAnswer.{limited_expr}
use Rattle.smv_expr.proofs.Answering.{text_answered}
use Rattle.smv_expr.proofs.ExprAnswering.{answered, complete}
use Rattle.smv_expr.proofs.ReadTrees.{answer_printable}
use Rattle.smv_expr.proofs.RoundTripAnswers.{answers_round_trip}
use Rattle.smv_expr.proofs.answer.read_expr.Goals as goal

pub returns-clause-answer : goal.returns-clause-answer
returns-clause-answer c = answered c.args.file c.args.bytes.now c.answer.result (c.answer.ensures (limited_expr (tokens c.args.file c.args.bytes.now))
    (subst (λ (ts : Tokens). Gives (limited_expr ts) c.whole_expr-found.result c.whole_expr-found.new.tokens) c.new-tokens.ensures c.whole_expr-found.ensures))

pub returns-clause-complete : goal.returns-clause-complete
returns-clause-complete c a reads = text_answered c.args.file c.args.bytes.now (limited_expr (tokens c.args.file c.args.bytes.now)) a c.answer.result (complete (tokens c.args.file c.args.bytes.now) a reads)
    (c.answer.ensures (limited_expr (tokens c.args.file c.args.bytes.now))
    (subst (λ (ts : Tokens). Gives (limited_expr ts) c.whole_expr-found.result c.whole_expr-found.new.tokens) c.new-tokens.ensures c.whole_expr-found.ensures))

pub returns-clause-round_trip : goal.returns-clause-round_trip
returns-clause-round_trip c e printable same = answers_round_trip c.args.file c.args.bytes.now e c.answer.result printable same (returns-clause-answer c)

pub returns-clause-printable : goal.returns-clause-printable
returns-clause-printable c = answer_printable c.args.file c.args.bytes.now c.answer.result (returns-clause-answer c)
