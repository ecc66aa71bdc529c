use Rattle.std.proofs.Common.{◌≡◌, ◌++◌, drop}
use Rattle.feature_model.specs.NameFaults.{names_of}
use Rattle.feature_model.proofs.numbering.append_names.Given as goal

abbrev pub invariant-loop-feature : goal.invariant-loop-feature
invariant-loop-feature l = l.names ++ names_of (drop l.feature-index l.features) ≡ l.fn.names ++ names_of l.features
