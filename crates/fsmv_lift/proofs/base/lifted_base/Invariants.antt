use Rattle.std.proofs.Common.{◌≡◌, map, take}
use Rattle.fsmv_lift.specs.LiftedBase as spec
use Rattle.fsmv_lift.proofs.base.lifted_base.Given as goal

abbrev pub invariant-loop-owner : goal.invariant-loop-owner
invariant-loop-owner l = l.modules ≡ map spec.lifted_module (take l.owner-index l.owner-items)
