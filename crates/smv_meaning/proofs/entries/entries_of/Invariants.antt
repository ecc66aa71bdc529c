use Rattle.std.proofs.Common.{◌≡◌, ◌++◌, drop}
use Rattle.std.specs.List.{flat_map}
use Rattle.smv_meaning.specs.Instances.{formals_from, item_entries, entries}
use Rattle.smv_meaning.specs.Items.{items_view}
use Rattle.smv_meaning.specs.Entries.{entries_view}
use Rattle.smv_meaning.proofs.entries.entries_of.Given as goal

abbrev pub invariant-loop-name : goal.invariant-loop-name
invariant-loop-name l = record {
  all : entries_view l.entries ++ formals_from l.number (drop l.name-index l.owner.formals) ≡ formals_from 0 l.owner.formals;
  count : l.number ≡ l.name-index;
}

abbrev pub invariant-loop-item : goal.invariant-loop-item
invariant-loop-item l = entries_view l.entries ++ flat_map item_entries (items_view (drop l.item-index l.item-items)) ≡ entries l.owner
