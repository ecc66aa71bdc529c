use Rattle.std.proofs.Common.{sym, ◌∙◌, arith, rules}
use Rattle.std.proofs.lemmas.Grind.{common_steps}
use Rattle.smv_expr.specs.Limits.Limit.{Below}
use Rattle.smv_expr.specs.Reading.{pushed}
use Rattle.smv_expr.specs.ExprReaders.{first_expr, read_expr, read_not, read_signed_expr, read_branch, read_branches}
use Rattle.smv_expr.proofs.Rounds.{one_round, rounds_end}
use Rattle.smv_expr.proofs.ExprRounds.{branch_consumes}
use Rattle.smv_expr.proofs.expr.Grammar.branches.Goals as goal

pub rounds-init : goal.rounds-init
unfolding read_branches
rounds-init g c = search rules

pub returns-in_err-one : goal.returns-in_err-one
returns-in_err-one g c =
    let round = c.rounds.invariant ∙ one_round first_expr (read_branch (read_expr c.args.self.now.depth) (read_not c.args.self.now.depth) (read_signed_expr c.args.self.now.depth) (Below c.args.bound)) pushed (branch_consumes c.args.self.now.depth c.args.bound c.requires.small) c.rounds.found c.rounds.tokens (sym c.sees_expr.ensures ∙ c.rounds-test.true) in
    first_of (search rules, grind (arith, common_steps))

pub rounds-smaller : goal.rounds-smaller
rounds-smaller g c = (branch_consumes c.args.self.now.depth c.args.bound c.requires.small).less c.rounds.tokens c.in_ok-one.one _ c.in_ok-one.ensures

pub rounds-preserved : goal.rounds-preserved
rounds-preserved g c =
    let round = c.rounds.invariant ∙ one_round first_expr (read_branch (read_expr c.args.self.now.depth) (read_not c.args.self.now.depth) (read_signed_expr c.args.self.now.depth) (Below c.args.bound)) pushed (branch_consumes c.args.self.now.depth c.args.bound c.requires.small) c.rounds.found c.rounds.tokens (sym c.sees_expr.ensures ∙ c.rounds-test.true) in
    first_of (search rules, grind (arith, common_steps))

pub returns : goal.returns
returns g c = c.rounds.invariant ∙ rounds_end first_expr (read_branch (read_expr c.args.self.now.depth) (read_not c.args.self.now.depth) (read_signed_expr c.args.self.now.depth) (Below c.args.bound)) pushed c.rounds.found c.rounds.tokens (sym c.sees_expr.ensures ∙ c.rounds-test.false)
