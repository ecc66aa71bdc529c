use Rattle.std.proofs.Common.{ℕ, ◌-◌}
use Rattle.sat_search.specs.Orders.{AreRows}
use Rattle.sat_search.proofs.heap.sift_down.Given as goal

abbrev pub invariant-loop-at : goal.invariant-loop-at
invariant-loop-at l = (rows : ℕ) → AreRows rows l.fn.slots → AreRows rows l.slots

abbrev pub decreases-loop-at : goal.decreases-loop-at
decreases-loop-at l = l.count - l.at
