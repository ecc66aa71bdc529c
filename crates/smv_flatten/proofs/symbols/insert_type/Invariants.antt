use Rattle.std.proofs.Common.{◌≡◌, drop, fold}
use Rattle.smv_meaning.specs.Symbols.{type_symbols}
use Rattle.smv_flatten.specs.Names as spec
use Rattle.smv_flatten.proofs.symbols.insert_type.Given as goal

abbrev pub invariant-loop-name : goal.invariant-loop-name
invariant-loop-name l = fold spec.with_symbol (spec.symbol_names l.symbols) (drop l.name-index l.name-items) ≡ fold spec.with_symbol (spec.symbol_names l.fn.symbols) (type_symbols l.type_)
