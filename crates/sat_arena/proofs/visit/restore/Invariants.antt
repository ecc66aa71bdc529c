use Rattle.std.proofs.Common.{◌≡◌, length}
use Rattle.sat_arena.specs.Links.{chain_length}
use Rattle.sat_arena.specs.Links.{IsListedFrom}
use Rattle.sat_arena.proofs.visit.restore.Given as goal

abbrev pub invariant-loop-pending : goal.invariant-loop-pending
invariant-loop-pending l = record {
  same : l.watched ≡ l.fn.watched;
  listed : IsListedFrom l.links l.heads l.watched l.falsified l.pending;
}

abbrev pub decreases-loop-pending : goal.decreases-loop-pending
decreases-loop-pending l = chain_length l.links (length l.links) l.pending
