use Rattle.std.proofs.Common.{◌≡◌, drop}
use Rattle.smv_flatten.specs.Groups as spec
use Rattle.smv_flatten.proofs.groups.make_group.Given as goal

abbrev pub invariant-loop-row : goal.invariant-loop-row
invariant-loop-row l = spec.group_made l.names l.program l.role (drop l.row-index l.order) (l.store, l.made) ≡ spec.group_made l.names l.program l.role l.order (l.fn.store, l.fn.made)
