use Rattle.std.proofs.Common.{◌≡◌, drop}
use Rattle.smv_meaning.specs.NameSets.{in_set, and_names}
use Rattle.smv_meaning.specs.Symbols.{type_symbols}
use Rattle.integrate.proofs.symbols.insert_type.Given as goal

abbrev pub invariant-loop-symbol : goal.invariant-loop-symbol
invariant-loop-symbol l = and_names (in_set l.names) (drop l.symbol-index l.symbol-items) ≡ and_names (in_set l.fn.names) (type_symbols l.values)
