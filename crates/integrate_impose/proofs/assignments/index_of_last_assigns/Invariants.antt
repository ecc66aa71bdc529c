use Rattle.std.proofs.Common.{◌≡◌, false, drop}
use Rattle.std.specs.List.{list_any}
use Rattle.integrate_impose.specs.Impose.{is_assigns}
use Rattle.integrate_impose.proofs.assignments.index_of_last_assigns.Given as goal

abbrev pub invariant-loop-i : goal.invariant-loop-i
invariant-loop-i l = list_any is_assigns (drop l.i l.sections) ≡ false
