use Rattle.std.proofs.Common.{subst}
use Rattle.smv_expr.specs.Lexicon.{tokens}
use Rattle.smv_expr.specs.Language.{Tokens}
use Rattle.smv_expr.specs.Reading.{Gives}
use Rattle.feature_model.specs.TextReaders.{read_strict_text}
use Rattle.feature_model.specs.ModelAnswer.{Is, text_result}
use Rattle.feature_model.proofs.Reports.{handed_on}
use Rattle.feature_model.proofs.ModelAnswers.{due, answered, completed, modelled, text_refused, text_checked}
use Rattle.feature_model.proofs.model_reader.read_model.Goals as goal

pub returns-in_err-text-clause-answer : goal.returns-in_err-text-clause-answer
returns-in_err-text-clause-answer c =
    let text = text_result c.args.file c.args.bytes.now (read_strict_text (tokens c.args.file c.args.bytes.now)) in
    let reported = c.whole_text.ensures (read_strict_text (tokens c.args.file c.args.bytes.now)) (subst (λ (ts : Tokens). Gives (read_strict_text ts) c.text-found.result c.text-found.new.tokens) c.new-tokens.ensures c.text-found.ensures) in
    answered c.args.file c.args.bytes.now c.from_residual.result (handed_on c.from_residual.result c.in_err-text.field-0.0 (Is (due c.args.file c.args.bytes.now)) c.from_residual.ensures.1 (text_refused text c.in_err-text.field-0.0 (subst (Is text) c.in_err-text.was reported)))

pub returns-in_err-text-clause-complete : goal.returns-in_err-text-clause-complete
returns-in_err-text-clause-complete c =
    let text = text_result c.args.file c.args.bytes.now (read_strict_text (tokens c.args.file c.args.bytes.now)) in
    let reported = c.whole_text.ensures (read_strict_text (tokens c.args.file c.args.bytes.now)) (subst (λ (ts : Tokens). Gives (read_strict_text ts) c.text-found.result c.text-found.new.tokens) c.new-tokens.ensures c.text-found.ensures) in
    completed c.args.file c.args.bytes.now c.from_residual.result (handed_on c.from_residual.result c.in_err-text.field-0.0 (Is (due c.args.file c.args.bytes.now)) c.from_residual.ensures.1 (text_refused text c.in_err-text.field-0.0 (subst (Is text) c.in_err-text.was reported)))

pub returns-clause-answer : goal.returns-clause-answer
returns-clause-answer c =
    let text = text_result c.args.file c.args.bytes.now (read_strict_text (tokens c.args.file c.args.bytes.now)) in
    let reported = c.whole_text.ensures (read_strict_text (tokens c.args.file c.args.bytes.now)) (subst (λ (ts : Tokens). Gives (read_strict_text ts) c.text-found.result c.text-found.new.tokens) c.new-tokens.ensures c.text-found.ensures) in
    answered c.args.file c.args.bytes.now c.checked_model.result (text_checked text c.in_ok-text.text c.checked_model.result (subst (Is text) c.in_ok-text.was reported) c.checked_model.ensures)

pub returns-clause-complete : goal.returns-clause-complete
returns-clause-complete c =
    let text = text_result c.args.file c.args.bytes.now (read_strict_text (tokens c.args.file c.args.bytes.now)) in
    let reported = c.whole_text.ensures (read_strict_text (tokens c.args.file c.args.bytes.now)) (subst (λ (ts : Tokens). Gives (read_strict_text ts) c.text-found.result c.text-found.new.tokens) c.new-tokens.ensures c.text-found.ensures) in
    completed c.args.file c.args.bytes.now c.checked_model.result (text_checked text c.in_ok-text.text c.checked_model.result (subst (Is text) c.in_ok-text.was reported) c.checked_model.ensures)

pub returns-clause-model : goal.returns-clause-model
returns-clause-model c =
    let text = text_result c.args.file c.args.bytes.now (read_strict_text (tokens c.args.file c.args.bytes.now)) in
    let reported = c.whole_text.ensures (read_strict_text (tokens c.args.file c.args.bytes.now)) (subst (λ (ts : Tokens). Gives (read_strict_text ts) c.text-found.result c.text-found.new.tokens) c.new-tokens.ensures c.text-found.ensures) in
    modelled c.args.file c.args.bytes.now c.checked_model.result (text_checked text c.in_ok-text.text c.checked_model.result (subst (Is text) c.in_ok-text.was reported) c.checked_model.ensures)
