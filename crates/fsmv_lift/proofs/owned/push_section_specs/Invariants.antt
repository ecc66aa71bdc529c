use Rattle.std.proofs.Common.{◌≡◌, ◌++◌, drop}
use Rattle.fsmv_lift.specs.Lift as spec
use Rattle.fsmv_lift.proofs.owned.push_section_specs.Given as goal

abbrev pub invariant-loop-section : goal.invariant-loop-section
invariant-loop-section l = l.specs ++ spec.specs_from l.number l.called l.at (drop l.section-index l.sections) ≡ l.fn.specs ++ spec.specs_from l.number l.called l.count l.sections
