use Rattle.std.proofs.Common.{length}
use Rattle.sat_lits.specs.Steps.{IsFalsified}
use Rattle.sat_arena.specs.Trails.{marked}
use Rattle.sat_arena.specs.ArenaState.{clauses_of}
use Rattle.sat_arena.specs.Links.{chain_length}
use Rattle.sat_arena.specs.Watches.{IsSearching}
use Rattle.sat_arena.proofs.falsified.find_in_list.Given as goal

abbrev pub invariant-loop-pending : goal.invariant-loop-pending
invariant-loop-pending l = IsSearching (clauses_of l.clauses) l.links l.watched (IsFalsified (marked l.literal_set)) l.fn.lit l.pending

abbrev pub decreases-loop-pending : goal.decreases-loop-pending
decreases-loop-pending l = chain_length l.links (length l.links) l.pending
