use Rattle.std.proofs.Common.{◌≡◌, ◌∷◌, ◌+◌, drop, get_or, sym, ap, ◌∙◌}
use Rattle.std.proofs.lemmas.List.{drop_more}
use Rattle.smv_meaning.proofs.FaultLemmas.{reports_err}
use Rattle.smv_cycles.specs.CyclesBySlot.{nesting_fault}
use Rattle.smv_cycles.proofs.nesting.check_nesting.Goals as goal

pub returns-in_err-check_row : goal.returns-in_err-check_row
returns-in_err-check_row c =
    let split : drop c.loop-row.row-index c.args.order.now ≡ get_or c.args.order.now c.loop-row.row-index 0 ∷ drop (c.loop-row.row-index + 1) c.args.order.now = drop_more c.args.order.now c.loop-row.row-index 0 c.loop-row-test.true in
    reports_err _ _ _ _ _ _ (ap (nesting_fault c.args.program.now c.args.table.now c.args.aliases.now c.args.heights.now) (sym split) ∙ c.loop-row.invariant) c.check_row.ensures c.in_err-check_row.was c.from_residual-in_err-check_row.ensures.1
