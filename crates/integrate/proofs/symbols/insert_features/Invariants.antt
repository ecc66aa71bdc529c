use Rattle.std.proofs.Common.{◌≡◌, drop}
use Rattle.smv_meaning.specs.NameSets.{in_set, and_names}
use Rattle.integrate.specs.Introductions as spec
use Rattle.integrate.proofs.symbols.insert_features.Given as goal

abbrev pub invariant-loop-feature : goal.invariant-loop-feature
invariant-loop-feature l = and_names (in_set l.names) (spec.symbols_of_features (drop l.feature-index l.features)) ≡ and_names (in_set l.fn.names) (spec.symbols_of_features l.features)
