use Rattle.std.proofs.Common.{◌≡◌, drop}
use Rattle.feature_model.specs.NameSets.{in_set, and_names}
use Rattle.feature_model.specs.NameFaults.{declarations_fault, names_of}
use Rattle.feature_model.proofs.names.declare.Given as goal

abbrev pub invariant-loop-feature : goal.invariant-loop-feature
invariant-loop-feature l = record {
  fault : declarations_fault (in_set l.declared) (drop l.feature-index l.features) ≡ declarations_fault (in_set l.fn.declared) l.features;
  declared : and_names (in_set l.declared) (names_of (drop l.feature-index l.features)) ≡ and_names (in_set l.fn.declared) (names_of l.features);
}
