use Rattle.std.proofs.Common.{◌≡◌, ◌++◌, drop}
use Rattle.std.specs.List.{flat_map}
use Rattle.smv_meaning.specs.Items.{items_view}
use Rattle.smv_nodes.specs.Count as spec
use Rattle.smv_nodes.specs.CountBySlot as by_slot
use Rattle.smv_nodes.proofs.read_exprs.push_items.Given as goal

abbrev pub invariant-loop-item : goal.invariant-loop-item
invariant-loop-item l = by_slot.read_expr_views l.read_exprs.items ++ flat_map (spec.item_exprs l.row) (items_view (drop l.item-index l.items))
    ≡ by_slot.read_expr_views l.fn.read_exprs.items ++ flat_map (spec.item_exprs l.row) (items_view l.items)
