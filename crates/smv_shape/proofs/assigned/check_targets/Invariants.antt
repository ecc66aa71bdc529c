use Rattle.std.proofs.Common.{◌≡◌, drop}
use Rattle.smv_meaning.specs.Runs.{first_fault}
use Rattle.smv_shape.specs.Assigned as spec
use Rattle.smv_shape.proofs.assigned.check_targets.Given as goal

abbrev pub invariant-loop-owner : goal.invariant-loop-owner
invariant-loop-owner l = first_fault spec.target_within (drop l.owner-index l.program.modules) ≡ spec.parameter_fault l.program
