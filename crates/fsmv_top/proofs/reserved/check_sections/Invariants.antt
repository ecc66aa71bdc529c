use Rattle.std.proofs.Common.{◌≡◌, drop}
use Rattle.smv_meaning.specs.Runs.{first_fault}
use Rattle.fsmv_top.specs.ReservedNames.{reserved_in_section}
use Rattle.fsmv_top.proofs.reserved.check_sections.Given as goal

abbrev pub invariant-loop-section : goal.invariant-loop-section
invariant-loop-section l = first_fault reserved_in_section (drop l.section-index l.sections) ≡ first_fault reserved_in_section l.sections
