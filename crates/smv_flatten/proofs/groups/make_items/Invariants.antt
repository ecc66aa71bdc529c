use Rattle.std.proofs.Common.{◌≡◌, drop, fold}
use Rattle.smv_meaning.specs.Items.{items_view}
use Rattle.smv_flatten.specs.Groups as spec
use Rattle.smv_flatten.proofs.groups.make_items.Given as goal

abbrev pub invariant-loop-item : goal.invariant-loop-item
invariant-loop-item l = fold (spec.item_made l.names l.role l.row) (l.store, l.made) (items_view (drop l.item-index l.items))
    ≡ fold (spec.item_made l.names l.role l.row) (l.fn.store, l.fn.made) (items_view l.items)
