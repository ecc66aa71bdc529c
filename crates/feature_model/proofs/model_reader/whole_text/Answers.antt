use Rattle.std.proofs.Common.{sym, subst}
use Rattle.smv_expr.specs.Reading.{Outcome, Gives}
use Rattle.feature_model.specs.ModelAnswer.{Is, text_result}
use Rattle.feature_model.specs.declared.text.TextReading.{TextReading}
use Rattle.feature_model.proofs.ModelAnswers.{stop_reported}
use Rattle.feature_model.proofs.model_reader.whole_text.Goals as goal

pub returns-in-Err : goal.returns-in-Err
returns-in-Err c = λ o g. stop_reported c.args.file c.args.bytes.now c.in-Err.error c.args.tokens.now c.answer.result c.answer.ensures o (subst (λ f. Gives o f c.args.tokens.now) c.in-Err.is g)

pub returns-in-Ok : goal.returns-in-Ok
returns-in-Ok c = λ o g.
    let found = subst (λ f. Gives o f c.args.tokens.now) c.in-Ok.is g in
    subst (λ (x : Outcome TextReading). Is (text_result c.args.file c.args.bytes.now x) c.whole_reading.result) (sym found) c.whole_reading.ensures
