use Rattle.std.proofs.Common.{◌≡◌, ◌+◌, ◌++◌, length, map, reverse}
use Rattle.fsmv_lift.specs.LiftedBase as spec
use Rattle.fsmv_lift.proofs.base.lifted_declarations.Given as goal

abbrev pub invariant-loop-round : goal.invariant-loop-round
invariant-loop-round l = (map spec.lifted_declaration l.fn.declarations ≡ l.lifted ++ map spec.lifted_declaration (reverse l.waiting)) × (length l.waiting + l._round ≡ l._round-end)
