use Rattle.std.proofs.Common.{◌≡◌, take}
use Rattle.integrate_impose.proofs.section_copies.copy_assignments.Given as goal

abbrev pub invariant-loop-assignment : goal.invariant-loop-assignment
invariant-loop-assignment l = l.copy ≡ take l.assignment-index l.assignments
