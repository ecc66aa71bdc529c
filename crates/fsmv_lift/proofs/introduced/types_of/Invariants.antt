use Rattle.std.proofs.Common.{◌≡◌, ◌≤◌, length, drop}
use Rattle.smv_meaning.specs.Value.{Name}
use Rattle.fsmv_lift.specs.IntroducedVariables.{type_among}
use Rattle.fsmv_lift.specs.IntroducedTypes.{introduced_views, type_in}
use Rattle.fsmv_lift.proofs.introduced.types_of.Given as goal

abbrev pub invariant-loop-left : goal.invariant-loop-left
invariant-loop-left l = record {
  within : l.left ≤ length l.variables;
  same : (called name : Name) → type_in l.types called name ≡ type_among (introduced_views (drop l.left l.variables)) called name;
}

abbrev pub decreases-loop-left : goal.decreases-loop-left
decreases-loop-left l = l.left
