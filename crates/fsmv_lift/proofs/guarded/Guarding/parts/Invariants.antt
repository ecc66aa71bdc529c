use Rattle.std.proofs.Common.{◌≡◌, map, take}
use Rattle.fsmv_lift.specs.GuardedFeature as spec
use Rattle.fsmv_lift.proofs.guarded.Guarding.parts.Given as goal

abbrev pub invariant-loop-part : goal.invariant-loop-part
invariant-loop-part l = l.parts ≡ map (spec.guarded_part l.self.feature.now) (take l.part-index l.part-items)
