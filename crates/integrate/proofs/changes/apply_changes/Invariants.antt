use Rattle.std.proofs.Common.{◌≡◌, length}
use Rattle.integrate.specs.Changes as spec
use Rattle.integrate.proofs.changes.apply_changes.Given as goal

abbrev pub invariant-loop-left : goal.invariant-loop-left
invariant-loop-left l = spec.all_changed l.feature l.product l.program l.left ≡ spec.all_changed l.feature l.product l.fn.program l.changes

abbrev pub decreases-loop-left : goal.decreases-loop-left
decreases-loop-left l = length l.left
