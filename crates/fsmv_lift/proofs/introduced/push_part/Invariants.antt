use Rattle.std.proofs.Common.{◌≡◌, ◌++◌, drop}
use Rattle.std.specs.List.{flat_map}
use Rattle.fsmv_lift.specs.IntroducedVariables as spec
use Rattle.fsmv_lift.specs.IntroducedTypes.{introduced_views}
use Rattle.fsmv_lift.proofs.introduced.push_part.Given as goal

abbrev pub invariant-loop-section : goal.invariant-loop-section
invariant-loop-section l = introduced_views l.variables ++ flat_map (spec.section_introduces l.part.«module») (drop l.section-index l.section-items) ≡ introduced_views l.fn.variables ++ spec.part_introduces l.part
