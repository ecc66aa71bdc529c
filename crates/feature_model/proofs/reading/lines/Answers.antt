use Rattle.std.proofs.Common.{sym, ◌∙◌, arith, rules}
use Rattle.std.proofs.lemmas.Grind.{common_steps}
use Rattle.smv_expr.proofs.RowRounds.{follow_items, more_stops}
use Rattle.feature_model.specs.TextGrammar.{first_line}
use Rattle.feature_model.specs.TextReaders.{read_strict_line, read_strict_lines, with_line, is_refused}
use Rattle.feature_model.proofs.StrictReading.{strict_line_consumes}
use Rattle.feature_model.proofs.reading.lines.Goals as goal

pub rounds-init : goal.rounds-init
unfolding read_strict_lines
rounds-init c = search rules

pub returns-in_err-one : goal.returns-in_err-one
returns-in_err-one c =
    let round = c.rounds.invariant ∙ follow_items first_line is_refused (λ found. read_strict_line) with_line (λ found. strict_line_consumes) c.rounds.found c.rounds.tokens (sym c.continues.ensures ∙ c.rounds-test.true) in
    first_of (search rules, grind (arith, common_steps))

pub rounds-smaller : goal.rounds-smaller
rounds-smaller c = strict_line_consumes.less c.rounds.tokens c.in_ok-one.one _ c.in_ok-one.ensures

pub rounds-preserved : goal.rounds-preserved
rounds-preserved c =
    let round = c.rounds.invariant ∙ follow_items first_line is_refused (λ found. read_strict_line) with_line (λ found. strict_line_consumes) c.rounds.found c.rounds.tokens (sym c.continues.ensures ∙ c.rounds-test.true) in
    first_of (search rules, grind (arith, common_steps))

pub returns : goal.returns
returns c = c.rounds.invariant ∙ more_stops first_line is_refused (λ found. read_strict_line) with_line c.rounds.found c.rounds.tokens (sym c.continues.ensures ∙ c.rounds-test.false)
