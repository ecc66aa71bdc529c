use Rattle.std.proofs.Common.{Bool, List, subst}
use Rattle.smv_meaning.specs.Faults.{ReportsFirst}
use Rattle.smv_meaning.specs.Items.{Item, items_view}
use Rattle.smv_meaning.specs.Runs.{first_fault}
use Rattle.smv_cycles.specs.Cycles.{nested_item}
use Rattle.smv_cycles.specs.CyclesBySlot.{high_row, deep_row}
use Rattle.smv_cycles.proofs.nesting.check_row.Goals as goal

pub returns : goal.returns
returns c =
    let high = high_row c.args.table.now c.args.aliases.now c.args.heights.now c.args.row in
    subst (λ (xs : List Item). ReportsFirst (first_fault (nested_item high (deep_row c.args.table.now c.args.row)) xs) c.check_items.result) c.of_row.ensures
    (subst (λ (deep : Bool). ReportsFirst (first_fault (nested_item high deep) (items_view c.of_row.result.now)) c.check_items.result) c.in_ok-deep.ensures c.check_items.ensures)
