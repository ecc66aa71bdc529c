use Rattle.std.proofs.Common.{◌≡◌, drop}
use Rattle.smv_meaning.specs.Items.{items_view}
use Rattle.smv_meaning.specs.Runs.{first_fault}
use Rattle.smv_cycles.specs.Cycles as spec
use Rattle.smv_cycles.proofs.spans.span_among.Given as goal

abbrev pub invariant-loop-item : goal.invariant-loop-item
invariant-loop-item l = first_fault (spec.span_if_named l.name) (items_view (drop l.item-index l.items)) ≡ first_fault (spec.span_if_named l.name) (items_view l.items)
