use Rattle.std.proofs.Common.{◌≡◌, [], drop, fold}
use Rattle.std.specs.List.{flat_map}
use Rattle.smv_meaning.specs.Items.{items_view}
use Rattle.smv_meaning.specs.Symbols.{item_symbols, symbols}
use Rattle.smv_flatten.specs.Names as spec
use Rattle.smv_flatten.proofs.symbols.numbered_symbols.Given as goal

abbrev pub invariant-loop-item : goal.invariant-loop-item
invariant-loop-item l = fold spec.with_symbol (spec.symbol_names l.symbols) (flat_map item_symbols (items_view (drop l.item-index l.item-items))) ≡ fold spec.with_symbol [] (symbols l.program)
