use Rattle.std.proofs.Common.{◌≡◌, drop}
use Rattle.smv_meaning.specs.Runs.{first_fault}
use Rattle.fsmv_top.specs.ReservedNames.{reserved_in_need}
use Rattle.fsmv_top.proofs.reserved.check_needs.Given as goal

abbrev pub invariant-loop-need : goal.invariant-loop-need
invariant-loop-need l = first_fault reserved_in_need (drop l.need-index l.needs) ≡ first_fault reserved_in_need l.needs
