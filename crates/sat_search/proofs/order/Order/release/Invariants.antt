use Rattle.std.proofs.Common.{◌≡◌, ◌≤◌, length}
use Rattle.sat_search.proofs.order.Order.release.Given as goal

abbrev pub invariant-loop-left : goal.invariant-loop-left
invariant-loop-left l = (l.self ≡ l.fn.self) × (l.left ≤ length l.entries)

abbrev pub decreases-loop-left : goal.decreases-loop-left
decreases-loop-left l = l.left
