use Rattle.std.proofs.Common.{◌≡◌, ◌++◌, drop}
use Rattle.fsmv_lift.specs.Lift.{owned_variables}
use Rattle.fsmv_lift.proofs.lifting.introduced_variables.Given as goal

abbrev pub invariant-loop-feature : goal.invariant-loop-feature
invariant-loop-feature l = l.vars ++ owned_variables l.names (drop l.feature-index l.features) ≡ owned_variables l.names l.features
