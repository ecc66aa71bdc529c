use Rattle.std.proofs.Common.{◌≡◌, ◌+◌, ◌++◌, length, reverse}
use Rattle.integrate_impose.proofs.lists.reversed.Given as goal

abbrev pub invariant-loop-round : goal.invariant-loop-round
invariant-loop-round g l = (reverse l.fn.list ≡ l.backwards ++ reverse l.left) × (length l.left + l._round ≡ l._round-end)
