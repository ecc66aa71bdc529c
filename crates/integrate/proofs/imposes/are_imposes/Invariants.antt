use Rattle.std.proofs.Common.{◌≡◌, drop}
use Rattle.std.specs.List.{list_all}
use Rattle.integrate.specs.SameNames.{is_impose}
use Rattle.integrate.proofs.imposes.are_imposes.Given as goal

abbrev pub invariant-loop-change : goal.invariant-loop-change
invariant-loop-change l = list_all is_impose (drop l.change-index l.changes) ≡ list_all is_impose l.changes
