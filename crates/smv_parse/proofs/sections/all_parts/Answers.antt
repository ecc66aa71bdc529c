use Rattle.std.proofs.Common.{sym, ◌∙◌, arith, rules}
use Rattle.std.proofs.lemmas.Grind.{common_steps}
use Rattle.smv_expr.proofs.Rounds.{one_round, rounds_end}
use Rattle.smv_parse.specs.Grammar.{with_part}
use Rattle.smv_parse.specs.Readers.{first_part, read_part, read_parts, the_limit}
use Rattle.smv_parse.proofs.Consuming.{part_consumes}
use Rattle.smv_parse.proofs.sections.all_parts.Goals as goal

pub rounds-init : goal.rounds-init
unfolding read_parts
rounds-init c = search rules

pub returns-in_err-one : goal.returns-in_err-one
returns-in_err-one c =
    let round = c.rounds.invariant ∙ one_round first_part (read_part the_limit) with_part part_consumes c.rounds.found c.rounds.tokens (sym c.sees_part.ensures ∙ c.rounds-test.true) in
    first_of (search rules, grind (arith, common_steps))

pub rounds-smaller : goal.rounds-smaller
rounds-smaller c = part_consumes.less c.rounds.tokens c.in_ok-one.one _ c.in_ok-one.ensures

pub rounds-preserved : goal.rounds-preserved
rounds-preserved c =
    let round = c.rounds.invariant ∙ one_round first_part (read_part the_limit) with_part part_consumes c.rounds.found c.rounds.tokens (sym c.sees_part.ensures ∙ c.rounds-test.true) in
    first_of (search rules, grind (arith, common_steps))

pub returns : goal.returns
returns c = c.rounds.invariant ∙ rounds_end first_part (read_part the_limit) with_part c.rounds.found c.rounds.tokens (sym c.sees_part.ensures ∙ c.rounds-test.false)
