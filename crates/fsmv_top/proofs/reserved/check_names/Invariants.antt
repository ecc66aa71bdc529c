use Rattle.std.proofs.Common.{◌≡◌, drop}
use Rattle.smv_meaning.specs.Runs.{first_fault}
use Rattle.fsmv_top.specs.ReservedNames.{reserved_name}
use Rattle.fsmv_top.proofs.reserved.check_names.Given as goal

abbrev pub invariant-loop-name : goal.invariant-loop-name
invariant-loop-name l = first_fault (reserved_name l.at) (drop l.name-index l.names) ≡ first_fault (reserved_name l.at) l.names
