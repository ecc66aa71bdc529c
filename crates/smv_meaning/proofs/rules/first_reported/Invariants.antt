use Rattle.std.proofs.Common.{◌≡◌, drop}
use Rattle.smv_meaning.specs.Items.{items_view}
use Rattle.smv_meaning.specs.Runs.{first_fault}
use Rattle.smv_meaning.proofs.rules.first_reported.Given as goal

abbrev pub invariant-loop-item : goal.invariant-loop-item
invariant-loop-item g l = first_fault (g.R.ItemRule.reports l.rule) (items_view (drop l.item-index l.items)) ≡ first_fault (g.R.ItemRule.reports l.rule) (items_view l.items)
