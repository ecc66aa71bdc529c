use Rattle.std.proofs.Common.{◌≡◌, ◌++◌, drop, map}
use Rattle.smv_flatten.specs.Names as spec
use Rattle.smv_flatten.proofs.symbols.symbol_texts.Given as goal

abbrev pub invariant-loop-symbol : goal.invariant-loop-symbol
invariant-loop-symbol l = l.texts ++ map (λ n. n.now) (drop l.symbol-index l.symbol-items) ≡ spec.symbol_names l.symbols
