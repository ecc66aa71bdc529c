use Rattle.std.proofs.Common.{◌≡◌, drop}
use Rattle.smv_meaning.specs.Runs.{first_fault}
use Rattle.integrate.specs.Lookups.{program_of}
use Rattle.integrate.specs.FeatureFaults.{need_fault}
use Rattle.integrate.proofs.needs.check_needs.Given as goal

abbrev pub invariant-loop-need : goal.invariant-loop-need
invariant-loop-need l = first_fault (need_fault l.feature l.product (program_of l.lookups)) (drop l.need-index l.needs) ≡ first_fault (need_fault l.feature l.product (program_of l.lookups)) l.needs
