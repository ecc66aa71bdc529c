use Rattle.std.proofs.Common.{◌≡◌, drop}
use Rattle.smv_meaning.specs.Runs.{first_fault}
use Rattle.smv_names.specs.Modules.{miscounted_within, argument_fault}
use Rattle.smv_names.proofs.arguments.check_arguments.Given as goal

abbrev pub invariant-loop-owner : goal.invariant-loop-owner
invariant-loop-owner l = first_fault (miscounted_within l.modules.program.now) (drop l.owner-index l.modules.program.now.modules) ≡ argument_fault l.modules.program.now
