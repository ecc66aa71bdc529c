use Rattle.std.proofs.Common.{subst}
use Rattle.feature_model.specs.NameFaults.{names_fault, text_fault, ReportsFirst}
use Rattle.feature_model.specs.ModelAnswer.{Is, numbered_result}
use Rattle.feature_model.proofs.Reports.{handed_on}
use Rattle.feature_model.proofs.ModelAnswers.{names_refused, counted}
use Rattle.feature_model.proofs.model_reader.checked_model.Goals as goal

pub returns-in_err-check_names : goal.returns-in_err-check_names
returns-in_err-check_names c =
    let t = c.args.text.now in
    let f = c.in_err-check_names.field-0.0 in
    let first = subst (ReportsFirst (names_fault t)) c.in_err-check_names.was c.check_names.ensures in
    handed_on c.from_residual.result f (Is (numbered_result t (text_fault t))) c.from_residual.ensures.1 (names_refused t f first)

pub returns : goal.returns
returns c = counted c.args.text.now c.model_of.result c.in_ok-check_names.ensures c.model_of.ensures
