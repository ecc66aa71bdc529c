use Rattle.std.proofs.Common.{◌≡◌, drop}
use Rattle.smv_meaning.specs.Runs.{first_fault}
use Rattle.fsmv_top.specs.ReservedNames.{reserved_in_feature}
use Rattle.fsmv_top.proofs.reserved.check_features.Given as goal

abbrev pub invariant-loop-feature : goal.invariant-loop-feature
invariant-loop-feature l = first_fault reserved_in_feature (drop l.feature-index l.features) ≡ first_fault reserved_in_feature l.features
