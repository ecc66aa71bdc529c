use Rattle.std.proofs.Common.{◌≡◌, ◌++◌, drop}
use Rattle.fsmv_lift.specs.Lift as spec
use Rattle.fsmv_lift.proofs.added.pins.Given as goal

abbrev pub invariant-loop-feature : goal.invariant-loop-feature
invariant-loop-feature l = l.pins ++ spec.pins (drop l.feature-index l.features) ≡ spec.pins l.features
