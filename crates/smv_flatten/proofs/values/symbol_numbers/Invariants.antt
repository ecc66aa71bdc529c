use Rattle.std.proofs.Common.{◌≡◌, ◌++◌, drop, map}
use Rattle.smv_flatten.specs.Variables as spec
use Rattle.smv_flatten.proofs.values.symbol_numbers.Given as goal

abbrev pub invariant-loop-name : goal.invariant-loop-name
invariant-loop-name l = l.numbers ++ map (spec.symbol_value l.symbols) (drop l.name-index l.names) ≡ map (spec.symbol_value l.symbols) l.names
