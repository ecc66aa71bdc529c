use Rattle.std.proofs.Common.{◌≡◌, drop}
use Rattle.smv_meaning.specs.Items.{items_view}
use Rattle.smv_meaning.specs.MetItems as spec
use Rattle.smv_meaning.proofs.met_items.RunInstance.first_unmet.Given as goal

abbrev pub invariant-loop-item : goal.invariant-loop-item
invariant-loop-item l = spec.first_unmet l.self.context.now l.self.row l.before l.now (items_view (drop l.item-index l.list)) ≡ spec.first_unmet l.self.context.now l.self.row l.before l.now (items_view l.list)
