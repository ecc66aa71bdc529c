use Rattle.std.proofs.Common.{sym, ◌∙◌, arith, rules}
use Rattle.std.proofs.lemmas.Grind.{common_steps}
use Rattle.smv_expr.proofs.Rounds.{one_round, rounds_end}
use Rattle.smv_expr.specs.Reading.{pushed}
use Rattle.smv_parse.specs.Readers.{the_limit}
use Rattle.feature_parse.specs.Readers.{first_action, read_action, read_more_actions}
use Rattle.feature_parse.proofs.FeatureLocal.{action_consumes}
use Rattle.feature_parse.proofs.changes.more_actions.Goals as goal

pub rounds-init : goal.rounds-init
unfolding read_more_actions
rounds-init c = search rules

pub returns-in_err-one : goal.returns-in_err-one
returns-in_err-one c =
    let round = c.rounds.invariant ∙ one_round first_action (read_action the_limit) pushed action_consumes c.rounds.found c.rounds.tokens (sym c.sees_action.ensures ∙ c.rounds-test.true) in
    first_of (search rules, grind (arith, common_steps))

pub rounds-smaller : goal.rounds-smaller
rounds-smaller c = action_consumes.less c.rounds.tokens c.in_ok-one.one _ c.in_ok-one.ensures

pub rounds-preserved : goal.rounds-preserved
rounds-preserved c =
    let round = c.rounds.invariant ∙ one_round first_action (read_action the_limit) pushed action_consumes c.rounds.found c.rounds.tokens (sym c.sees_action.ensures ∙ c.rounds-test.true) in
    first_of (search rules, grind (arith, common_steps))

pub returns : goal.returns
returns c = c.rounds.invariant ∙ rounds_end first_action (read_action the_limit) pushed c.rounds.found c.rounds.tokens (sym c.sees_action.ensures ∙ c.rounds-test.false)
