use Rattle.std.proofs.Common.{◌≤◌, ◌<◌, ℕ}
use Rattle.sat_analyze.specs.Marked.{IsMarked}
use Rattle.sat_analyze.proofs.marks.Marks.skip_unmarked.Given as goal

abbrev pub invariant-loop-at : goal.invariant-loop-at
invariant-loop-at l = record {
  low : l.at ≤ l.position;
  unmarked : (i : ℕ) → l.at ≤ i → i < l.position → IsMarked l.self.seen.items i → ⊥;
}

abbrev pub decreases-loop-at : goal.decreases-loop-at
decreases-loop-at l = l.at
