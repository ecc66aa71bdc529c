use Rattle.std.proofs.Common.{sym, ◌∙◌, ap, arith, rules}
use Rattle.std.proofs.lemmas.Grind.{common_steps}
use Rattle.smv_expr.specs.Heights.{height}
use Rattle.smv_expr.specs.Limits.{beside}
use Rattle.smv_expr.specs.Limits.Limit.{Below}
use Rattle.smv_expr.specs.Language.{kinds_of}
use Rattle.smv_expr.specs.ExprGrammar.{never_ends, joined, or_operators}
use Rattle.smv_expr.specs.ExprReaders.{read_expr, read_not, read_signed_expr, read_or_item, read_more_or}
use Rattle.smv_expr.proofs.RowRounds.{follow_items, more_stops}
use Rattle.smv_expr.proofs.ExprRounds.{or_rounds}
use Rattle.smv_expr.proofs.expr.Grammar.more_or.Goals as goal

pub rounds-init : goal.rounds-init
unfolding read_more_or
rounds-init g c = search rules

pub returns-in_err-op : goal.returns-in_err-op
returns-in_err-op g c =
    let round = c.rounds.invariant ∙ follow_items (kinds_of or_operators) never_ends (λ b. read_or_item (read_expr c.args.self.now.depth) (read_not c.args.self.now.depth) (read_signed_expr c.args.self.now.depth) (beside (height b) (Below c.args.bound))) joined (or_rounds c.args.self.now.depth c.args.bound c.requires.small) c.rounds.left c.rounds.tokens (sym c.sees_one_of.ensures ∙ c.rounds-test.true) in
    let limit = ap (λ l. read_or_item (read_expr c.args.self.now.depth) (read_not c.args.self.now.depth) (read_signed_expr c.args.self.now.depth) l c.rounds.tokens) c.beside.ensures.is in
    first_of (search rules, grind (arith, common_steps))

pub rounds-smaller : goal.rounds-smaller
rounds-smaller g c = (or_rounds c.args.self.now.depth c.args.bound c.requires.small c.rounds.left).less c.rounds.tokens (c.in_ok-op.op, c.in_ok-op.right) _ (ap (λ l. read_or_item (read_expr c.args.self.now.depth) (read_not c.args.self.now.depth) (read_signed_expr c.args.self.now.depth) l c.rounds.tokens) (sym c.beside.ensures.is) ∙ c.in_ok-op.ensures)

pub rounds-preserved : goal.rounds-preserved
rounds-preserved g c =
    let round = c.rounds.invariant ∙ follow_items (kinds_of or_operators) never_ends (λ b. read_or_item (read_expr c.args.self.now.depth) (read_not c.args.self.now.depth) (read_signed_expr c.args.self.now.depth) (beside (height b) (Below c.args.bound))) joined (or_rounds c.args.self.now.depth c.args.bound c.requires.small) c.rounds.left c.rounds.tokens (sym c.sees_one_of.ensures ∙ c.rounds-test.true) in
    let limit = ap (λ l. read_or_item (read_expr c.args.self.now.depth) (read_not c.args.self.now.depth) (read_signed_expr c.args.self.now.depth) l c.rounds.tokens) c.beside.ensures.is in
    first_of (search rules, grind (arith, common_steps))

pub returns : goal.returns
returns g c = c.rounds.invariant ∙ more_stops (kinds_of or_operators) never_ends (λ b. read_or_item (read_expr c.args.self.now.depth) (read_not c.args.self.now.depth) (read_signed_expr c.args.self.now.depth) (beside (height b) (Below c.args.bound))) joined c.rounds.left c.rounds.tokens (sym c.sees_one_of.ensures ∙ c.rounds-test.false)
