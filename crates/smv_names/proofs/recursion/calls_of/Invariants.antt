use Rattle.std.proofs.Common.{◌≡◌, ◌++◌, drop}
use Rattle.std.specs.List.{flat_map}
use Rattle.smv_meaning.specs.Items.{items_view}
use Rattle.smv_names.specs.Recursion.{called_by, called_within}
use Rattle.smv_names.proofs.recursion.calls_of.Given as goal

abbrev pub invariant-loop-item : goal.invariant-loop-item
invariant-loop-item l = l.calls ++ flat_map (called_by l.modules.program.now) (items_view (drop l.item-index l.item-items)) ≡ called_within l.modules.program.now l.owner
