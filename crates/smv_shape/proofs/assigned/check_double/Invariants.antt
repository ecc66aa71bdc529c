use Rattle.std.proofs.Common.{◌≡◌, [], List, drop}
use Rattle.smv_meaning.specs.Items.{Item, items_view}
use Rattle.smv_shape.specs.Assigned as spec
use Rattle.smv_shape.proofs.AssignedLemmas.{AreHeld}
use Rattle.smv_shape.proofs.assigned.check_double.Given as goal

abbrev pub invariant-loop-item : goal.invariant-loop-item
invariant-loop-item l = (earlier : List Item) × AreHeld l.lefts earlier
    × (spec.double_after earlier (items_view (drop l.item-index l.items)) ≡ spec.double_after [] (items_view l.items))
