use Rattle.std.proofs.Common.{ℕ, ◌<◌, length}
use Rattle.sat_search.specs.Orders.{AreRows}
use Rattle.sat_search.proofs.heap.sift_up.Given as goal

abbrev pub invariant-loop-at : goal.invariant-loop-at
invariant-loop-at l = record {
  slot : l.at < length l.slots;
  same : (rows : ℕ) → AreRows rows l.fn.slots → AreRows rows l.slots;
}

abbrev pub decreases-loop-at : goal.decreases-loop-at
decreases-loop-at l = l.at
