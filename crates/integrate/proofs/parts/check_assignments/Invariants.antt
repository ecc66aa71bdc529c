use Rattle.std.proofs.Common.{◌≡◌, map, drop}
use Rattle.smv_meaning.specs.Items.{assignment_item}
use Rattle.smv_meaning.specs.Runs.{first_fault}
use Rattle.integrate.specs.Applications as application
use Rattle.integrate.proofs.parts.check_assignments.Given as goal

abbrev pub invariant-loop-assignment : goal.invariant-loop-assignment
invariant-loop-assignment l = first_fault (application.item_fault l.application l.module_scope) (map assignment_item (drop l.assignment-index l.assignments)) ≡ first_fault (application.item_fault l.application l.module_scope) (map assignment_item l.assignments)
