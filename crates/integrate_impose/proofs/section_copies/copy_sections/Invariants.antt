use Rattle.std.proofs.Common.{◌≡◌, take}
use Rattle.integrate_impose.proofs.section_copies.copy_sections.Given as goal

abbrev pub invariant-loop-section : goal.invariant-loop-section
invariant-loop-section l = l.copy ≡ take l.section-index l.sections
