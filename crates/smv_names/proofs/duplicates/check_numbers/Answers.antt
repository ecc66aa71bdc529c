use Rattle.std.proofs.Common.{sym, ap, ◌∙◌}
use Rattle.std.proofs.lemmas.List.{drop_more}
use Rattle.smv_names.specs.NumberSets.{has_number}
use Rattle.smv_names.specs.Duplicates.{duplicate_among_numbers}
use Rattle.smv_meaning.proofs.FaultLemmas.{reports_err}
use Rattle.smv_names.proofs.duplicates.check_numbers.Goals as goal

pub returns-in_err-report_number : goal.returns-in_err-report_number
returns-in_err-report_number c =
    reports_err _ _ _ _ _ _
    (ap (duplicate_among_numbers c.args.at (has_number c.loop-n.seen)) (sym (drop_more c.args.numbers.now c.loop-n.n-index _ c.loop-n-test.true)) ∙ c.loop-n.invariant)
    c.report_number.ensures c.in_err-report_number.was c.from_residual.ensures.1
