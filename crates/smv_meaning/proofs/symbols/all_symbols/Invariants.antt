use Rattle.std.proofs.Common.{◌≡◌, drop}
use Rattle.std.specs.List.{flat_map}
use Rattle.smv_meaning.specs.Items.{items_view}
use Rattle.smv_meaning.specs.NameSets.{in_set, no_name, and_names}
use Rattle.smv_meaning.specs.Symbols.{item_symbols, symbols}
use Rattle.smv_meaning.proofs.symbols.all_symbols.Given as goal

abbrev pub invariant-loop-item : goal.invariant-loop-item
invariant-loop-item l = and_names (in_set l.names) (flat_map item_symbols (items_view (drop l.item-index l.item-items))) ≡ and_names no_name (symbols l.program)
