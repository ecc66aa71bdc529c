use Rattle.std.proofs.Common.{◌≡◌, drop}
use Rattle.integrate.specs.Changes as spec
use Rattle.integrate.proofs.changes.apply_each.Given as goal

abbrev pub invariant-loop-change : goal.invariant-loop-change
invariant-loop-change l = spec.all_changed l.feature l.product l.program (drop l.change-index l.changes) ≡ spec.all_changed l.feature l.product l.fn.program l.changes
