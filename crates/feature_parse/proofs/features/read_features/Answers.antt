use Rattle.std.proofs.Common.{subst}
use Rattle.smv_expr.specs.Lexicon.{tokens}
use Rattle.smv_expr.specs.Language.{Tokens}
use Rattle.smv_expr.specs.Reading.{Gives}
use Rattle.smv_expr.proofs.Answering.{text_answered}
use Rattle.feature_parse.specs.Answer.{limited_features}
use Rattle.feature_parse.proofs.FeatureAnswering.{answered, complete}
use Rattle.feature_parse.proofs.ReadFeatures.{answer_printable}
use Rattle.feature_parse.proofs.features.read_features.Goals as goal

pub returns-clause-answer : goal.returns-clause-answer
returns-clause-answer c = answered c.args.file c.args.bytes.now c.answer.result (c.answer.ensures (limited_features (tokens c.args.file c.args.bytes.now))
    (subst (λ (ts : Tokens). Gives (limited_features ts) c.features-found.result c.features-found.new.tokens) c.new-tokens.ensures c.features-found.ensures))

pub returns-clause-complete : goal.returns-clause-complete
returns-clause-complete c r reads = text_answered c.args.file c.args.bytes.now (limited_features (tokens c.args.file c.args.bytes.now)) r c.answer.result (complete (tokens c.args.file c.args.bytes.now) r reads)
    (c.answer.ensures (limited_features (tokens c.args.file c.args.bytes.now))
    (subst (λ (ts : Tokens). Gives (limited_features ts) c.features-found.result c.features-found.new.tokens) c.new-tokens.ensures c.features-found.ensures))

pub returns-clause-printable : goal.returns-clause-printable
returns-clause-printable c = answer_printable c.args.file c.args.bytes.now c.answer.result (returns-clause-answer c)
