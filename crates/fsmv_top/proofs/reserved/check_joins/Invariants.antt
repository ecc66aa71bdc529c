use Rattle.std.proofs.Common.{◌≡◌, drop}
use Rattle.smv_meaning.specs.Runs.{first_fault}
use Rattle.fsmv_top.specs.ReservedNames.{reserved_in_joined}
use Rattle.fsmv_top.proofs.reserved.check_joins.Given as goal

abbrev pub invariant-loop-joined : goal.invariant-loop-joined
invariant-loop-joined l = first_fault reserved_in_joined (drop l.joined-index l.joins) ≡ first_fault reserved_in_joined l.joins
