use Rattle.std.proofs.Common.{◌≡◌, map, take}
use Rattle.fsmv_lift.specs.Lift as spec
use Rattle.fsmv_lift.proofs.added.feature_declarations.Given as goal

abbrev pub invariant-loop-feature : goal.invariant-loop-feature
invariant-loop-feature l = l.declarations ≡ map spec.feature_declaration (take l.feature-index l.names)
