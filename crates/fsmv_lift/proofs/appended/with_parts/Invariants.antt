use Rattle.std.proofs.Common.{◌≡◌, ◌+◌, length, reverse}
use Rattle.integrate.specs.Joined.{joined}
use Rattle.fsmv_lift.proofs.appended.with_parts.Given as goal

abbrev pub invariant-loop-round : goal.invariant-loop-round
invariant-loop-round l = (joined l.program (reverse l.waiting) ≡ joined l.fn.program l.fn.parts) × (length l.waiting + l._round ≡ l._round-end)
