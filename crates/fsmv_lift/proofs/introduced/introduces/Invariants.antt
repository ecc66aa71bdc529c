use Rattle.std.proofs.Common.{◌≡◌, ◌++◌, drop}
use Rattle.fsmv_lift.specs.IntroducedVariables as spec
use Rattle.fsmv_lift.specs.IntroducedTypes.{introduced_views}
use Rattle.fsmv_lift.proofs.introduced.introduces.Given as goal

abbrev pub invariant-loop-part : goal.invariant-loop-part
invariant-loop-part l = introduced_views l.variables ++ spec.introduces (drop l.part-index l.joins) ≡ spec.introduces l.joins
