use Rattle.std.proofs.Common.{sym, ◌∙◌, ap, [], ◌∷◌, arith, rules}
use Rattle.std.proofs.lemmas.Grind.{common_steps}
use Rattle.smv_expr.specs.declared.kind.Kind.TheVariants as k
use Rattle.smv_expr.specs.Heights.{height}
use Rattle.smv_expr.specs.Limits.{beside}
use Rattle.smv_expr.specs.Limits.Limit.{Below}
use Rattle.smv_expr.specs.ExprGrammar.{is_closed, within_operand}
use Rattle.smv_expr.specs.ExprReaders.{read_expr, read_not, read_signed_expr, read_in_choice, read_more_within}
use Rattle.smv_expr.proofs.RowRounds.{follow_items, more_stops}
use Rattle.smv_expr.proofs.ExprRounds.{in_rounds}
use Rattle.smv_expr.proofs.expr.Grammar.more_within.Goals as goal

pub rounds-init : goal.rounds-init
unfolding read_more_within
rounds-init g c = search rules

pub returns-in_err-choice : goal.returns-in_err-choice
returns-in_err-choice g c =
    let round = c.rounds.invariant ∙ follow_items (k.In ∷ []) is_closed (λ b. read_in_choice (read_expr c.args.self.now.depth) (read_not c.args.self.now.depth) (read_signed_expr c.args.self.now.depth) (beside (height b.0) (Below c.args.bound))) within_operand (in_rounds c.args.self.now.depth c.args.bound c.requires.small) c.rounds.left c.rounds.tokens (sym c.continues_in.ensures ∙ c.rounds-test.true) in
    let limit = ap (λ l. read_in_choice (read_expr c.args.self.now.depth) (read_not c.args.self.now.depth) (read_signed_expr c.args.self.now.depth) l c.rounds.tokens) c.beside.ensures.is in
    first_of (search rules, grind (arith, common_steps))

pub rounds-smaller : goal.rounds-smaller
rounds-smaller g c = (in_rounds c.args.self.now.depth c.args.bound c.requires.small c.rounds.left).less c.rounds.tokens c.in_ok-choice.choice _ (ap (λ l. read_in_choice (read_expr c.args.self.now.depth) (read_not c.args.self.now.depth) (read_signed_expr c.args.self.now.depth) l c.rounds.tokens) (sym c.beside.ensures.is) ∙ c.in_ok-choice.ensures)

pub rounds-preserved : goal.rounds-preserved
rounds-preserved g c =
    let round = c.rounds.invariant ∙ follow_items (k.In ∷ []) is_closed (λ b. read_in_choice (read_expr c.args.self.now.depth) (read_not c.args.self.now.depth) (read_signed_expr c.args.self.now.depth) (beside (height b.0) (Below c.args.bound))) within_operand (in_rounds c.args.self.now.depth c.args.bound c.requires.small) c.rounds.left c.rounds.tokens (sym c.continues_in.ensures ∙ c.rounds-test.true) in
    let limit = ap (λ l. read_in_choice (read_expr c.args.self.now.depth) (read_not c.args.self.now.depth) (read_signed_expr c.args.self.now.depth) l c.rounds.tokens) c.beside.ensures.is in
    first_of (search rules, grind (arith, common_steps))

pub returns : goal.returns
returns g c = c.rounds.invariant ∙ more_stops (k.In ∷ []) is_closed (λ b. read_in_choice (read_expr c.args.self.now.depth) (read_not c.args.self.now.depth) (read_signed_expr c.args.self.now.depth) (beside (height b.0) (Below c.args.bound))) within_operand c.rounds.left c.rounds.tokens (sym c.continues_in.ensures ∙ c.rounds-test.false)
