use Rattle.std.proofs.Common.{◌≡◌, map, take}
use Rattle.fsmv_lift.specs.Lift as spec
use Rattle.fsmv_lift.proofs.added.feature_assignments.Given as goal

abbrev pub invariant-loop-feature : goal.invariant-loop-feature
invariant-loop-feature l = l.assignments ≡ map spec.feature_stays (take l.feature-index l.names)
