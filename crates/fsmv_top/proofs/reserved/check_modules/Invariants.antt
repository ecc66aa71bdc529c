use Rattle.std.proofs.Common.{◌≡◌, drop}
use Rattle.smv_meaning.specs.Runs.{first_fault}
use Rattle.fsmv_top.specs.ReservedNames.{reserved_in_module}
use Rattle.fsmv_top.proofs.reserved.check_modules.Given as goal

abbrev pub invariant-loop-owner : goal.invariant-loop-owner
invariant-loop-owner l = first_fault reserved_in_module (drop l.owner-index l.modules) ≡ first_fault reserved_in_module l.modules
