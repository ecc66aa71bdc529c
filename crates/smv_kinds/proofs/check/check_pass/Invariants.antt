use Rattle.std.proofs.Common.{◌≡◌, drop, map}
use Rattle.smv_meaning.specs.Checking.{instance_at}
use Rattle.smv_meaning.specs.Runs.{first_fault}
use Rattle.smv_kinds.specs.Rules.{instance_fault, pass_fault}
use Rattle.smv_kinds.proofs.check.check_pass.Given as goal

abbrev pub invariant-loop-row : goal.invariant-loop-row
invariant-loop-row l = first_fault (instance_fault l.context.program.now l.pass) (map (instance_at l.context.table.now) (drop l.row-index l.order)) ≡ pass_fault l.context.program.now l.pass
