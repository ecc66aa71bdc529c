use Rattle.std.proofs.Common.{◌≡◌, ◌++◌, drop}
use Rattle.std.specs.List.{flat_map}
use Rattle.fsmv_lift.specs.IntroducedVariables as spec
use Rattle.fsmv_lift.specs.IntroducedTypes.{introduced_views}
use Rattle.fsmv_lift.proofs.introduced.push_section.Given as goal

abbrev pub invariant-loop-declaration : goal.invariant-loop-declaration
invariant-loop-declaration l = introduced_views l.variables ++ flat_map (λ d. spec.declared_variable l.«module» d.name d.what) (drop l.declaration-index l.declaration-items) ≡ introduced_views l.fn.variables ++ spec.section_introduces l.«module» l.section
