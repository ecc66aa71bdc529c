use Rattle.std.proofs.Common.{◌≡◌, ◌∙◌, sym, Some, None}
use Rattle.smv_meaning.specs.RunCheck.{named_in}
use Rattle.smv_meaning.proofs.NumberLemmas.{are_linked}
use Rattle.smv_meaning.proofs.RunLemmas.{row_below, holds_some, holds_none}
use Rattle.smv_meaning.proofs.spec.holds_in.Goals as goal

pub row_named-requires-clause-linked : goal.row_named-requires-clause-linked
row_named-requires-clause-linked c = are_linked c.args.context.now.program.now c.args.context.now.table c.requires.right

pub invariant_of-is_true_in : goal.invariant_of-is_true_in
invariant_of-is_true_in c =
    let named : named_in c.args.context.now.table c.args.instance.now c.in_ok-order.order ≡ Some c.in-Some.row = rw c.as_slice-2.ensures at (sym c.in_ok-row.ensures ∙ c.in-Some.is) in
    record { within = row_below c.args.context.now.table c.in_ok-order.order c.args.instance.now c.in-Some.row c.in_ok-order.ensures.rows named }

pub returns-in-Some : goal.returns-in-Some
returns-in-Some c =
    let named : named_in c.args.context.now.table c.args.instance.now c.in_ok-order.order ≡ Some c.in-Some.row = rw c.as_slice-2.ensures at (sym c.in_ok-row.ensures ∙ c.in-Some.is) in
    c.in_ok-holds-in-Some.ensures ∙ holds_some c.args.context.now c.args.state c.args.e.now c.args.instance.now c.in_ok-order.order c.in-Some.row c.in_ok-order.ensures.order named

pub returns : goal.returns
returns c =
    let named : named_in c.args.context.now.table c.args.instance.now c.in_ok-order.order ≡ None = rw c.as_slice-2.ensures at (sym c.in_ok-row.ensures ∙ c.in-None.is) in
    holds_none c.args.context.now c.args.state c.args.e.now c.args.instance.now c.in_ok-order.order c.in_ok-order.ensures.order named
