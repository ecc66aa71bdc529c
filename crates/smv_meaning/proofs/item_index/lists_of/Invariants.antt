use Rattle.std.proofs.Common.{◌≡◌, ◌++◌, map, drop}
use Rattle.smv_meaning.specs.Items.{items}
use Rattle.smv_meaning.specs.ItemIndex.{list_view}
use Rattle.smv_meaning.proofs.item_index.lists_of.Given as goal

abbrev pub invariant-loop-owner : goal.invariant-loop-owner
invariant-loop-owner l = map list_view l.lists ++ map items (drop l.owner-index l.modules) ≡ map items l.modules
