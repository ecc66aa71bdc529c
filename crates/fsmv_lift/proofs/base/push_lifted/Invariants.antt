use Rattle.std.proofs.Common.{◌≡◌, ◌+◌, ◌++◌, length, map, reverse}
use Rattle.fsmv_lift.specs.LiftedBase as spec
use Rattle.fsmv_lift.proofs.base.push_lifted.Given as goal

abbrev pub invariant-loop-round : goal.invariant-loop-round
invariant-loop-round l = (l.lifted ++ map spec.lifted_section (reverse l.waiting) ≡ l.fn.lifted ++ map spec.lifted_section l.fn.sections) × (length l.waiting + l._round ≡ l._round-end)
