use Rattle.std.proofs.Common.{sym, ◌∙◌, [], ◌∷◌, arith, rules}
use Rattle.std.proofs.lemmas.Grind.{common_steps}
use Rattle.smv_expr.specs.declared.kind.Kind.TheVariants as k
use Rattle.smv_expr.proofs.Rounds.{one_round, rounds_end}
use Rattle.feature_parse.specs.Grammar.{with_joined}
use Rattle.smv_parse.specs.Readers.{the_limit}
use Rattle.feature_parse.specs.Readers.{read_joined_module, read_more_introduced}
use Rattle.feature_parse.proofs.FeatureLocal.{joined_consumes}
use Rattle.feature_parse.proofs.introduced.more_introduced.Goals as goal

pub rounds-init : goal.rounds-init
unfolding read_more_introduced
rounds-init c = search rules

pub returns-in_err-one : goal.returns-in_err-one
returns-in_err-one c =
    let round = c.rounds.invariant ∙ one_round (k.Module ∷ []) (read_joined_module the_limit) with_joined joined_consumes c.rounds.found c.rounds.tokens (sym c.sees.ensures ∙ c.rounds-test.true) in
    first_of (search rules, grind (arith, common_steps))

pub rounds-smaller : goal.rounds-smaller
rounds-smaller c = joined_consumes.less c.rounds.tokens c.in_ok-one.one _ c.in_ok-one.ensures

pub rounds-preserved : goal.rounds-preserved
rounds-preserved c =
    let round = c.rounds.invariant ∙ one_round (k.Module ∷ []) (read_joined_module the_limit) with_joined joined_consumes c.rounds.found c.rounds.tokens (sym c.sees.ensures ∙ c.rounds-test.true) in
    first_of (search rules, grind (arith, common_steps))

pub returns : goal.returns
returns c = c.rounds.invariant ∙ rounds_end (k.Module ∷ []) (read_joined_module the_limit) with_joined c.rounds.found c.rounds.tokens (sym c.sees.ensures ∙ c.rounds-test.false)
