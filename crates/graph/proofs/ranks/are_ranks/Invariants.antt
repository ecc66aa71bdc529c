-- No vertex so far has a lower rank than one of its successors.
use Rattle.std.proofs.Common.{◌≡◌, ◌<◌, ℕ, true}
use Rattle.graph.specs.Graphs.{successors_in}
use Rattle.graph.specs.Ranks.{rank_of, are_within}
use Rattle.graph.proofs.ranks.are_ranks.Given as goal

abbrev pub invariant-loop-successors : goal.invariant-loop-successors
invariant-loop-successors l = record {
  count : l.k ≡ l.successors-index;
  ranked : (k : ℕ) → k < l.k → are_within l.ranks (rank_of l.ranks k) (successors_in l.graph k) ≡ true;
}
