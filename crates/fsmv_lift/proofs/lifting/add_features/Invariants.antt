use Rattle.std.proofs.Common.{◌≡◌, ◌++◌, drop}
use Rattle.fsmv_lift.specs.Lift.{owned_specs}
use Rattle.fsmv_lift.specs.Lifting.{features_added}
use Rattle.fsmv_lift.proofs.lifting.add_features.Given as goal

abbrev pub invariant-loop-feature : goal.invariant-loop-feature
invariant-loop-feature l = record {
  program : features_added l.program (drop l.feature-index l.features) ≡ features_added l.fn.program l.features;
  specs : l.specs ++ owned_specs l.names l.program (drop l.feature-index l.features) ≡ l.fn.specs ++ owned_specs l.names l.fn.program l.features;
}
