use Rattle.std.proofs.Common.{◌≡◌, ◌++◌, map, drop}
use Rattle.fsmv_lift.specs.Lift as spec
use Rattle.fsmv_lift.specs.IntroducedTypes.{introduced_views}
use Rattle.fsmv_lift.proofs.owned.push_variables.Given as goal

abbrev pub invariant-loop-variable : goal.invariant-loop-variable
invariant-loop-variable l = l.vars ++ map (spec.owned_variable l.number) (introduced_views (drop l.variable-index l.variable-items)) ≡ l.fn.vars ++ spec.variables_of l.names l.feature
