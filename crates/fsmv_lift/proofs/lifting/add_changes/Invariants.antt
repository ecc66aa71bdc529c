use Rattle.std.proofs.Common.{◌≡◌, drop}
use Rattle.fsmv_lift.specs.Lifting as spec
use Rattle.fsmv_lift.proofs.lifting.add_changes.Given as goal

abbrev pub invariant-loop-change : goal.invariant-loop-change
invariant-loop-change l = spec.changes_added l.feature l.program (drop l.change-index l.changes) ≡ spec.changes_added l.feature l.fn.program l.changes
