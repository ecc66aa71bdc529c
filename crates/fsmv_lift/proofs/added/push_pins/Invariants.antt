use Rattle.std.proofs.Common.{◌≡◌, ◌++◌, map, drop}
use Rattle.fsmv_lift.specs.Lift as spec
use Rattle.fsmv_lift.specs.IntroducedTypes.{introduced_views}
use Rattle.fsmv_lift.proofs.added.push_pins.Given as goal

abbrev pub invariant-loop-variable : goal.invariant-loop-variable
invariant-loop-variable l = l.pins ++ map (spec.pin l.feature.name) (introduced_views (drop l.variable-index l.variable-items)) ≡ l.fn.pins ++ spec.pins_of l.feature
