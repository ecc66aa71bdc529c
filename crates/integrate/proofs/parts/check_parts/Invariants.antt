use Rattle.std.proofs.Common.{◌≡◌, drop}
use Rattle.smv_meaning.specs.Runs.{first_fault}
use Rattle.integrate.specs.Lookups.{program_of}
use Rattle.integrate.specs.Applications as application
use Rattle.integrate.proofs.parts.check_parts.Given as goal

abbrev pub invariant-loop-part : goal.invariant-loop-part
invariant-loop-part l = first_fault (application.part_fault l.application (program_of l.lookups)) (drop l.part-index l.parts) ≡ first_fault (application.part_fault l.application (program_of l.lookups)) l.parts
