use Rattle.std.proofs.Common.{◌≡◌, ◌⊎◌, length, set}
use Rattle.std.specs.Prelude.{Contains}
use Rattle.sat_arena.specs.Links.{chain_length, AreListed, IsMovedFrom}
use Rattle.sat_arena.proofs.visit.move_to_list.Given as goal

abbrev pub invariant-loop-pending : goal.invariant-loop-pending
invariant-loop-pending l = IsMovedFrom l.links l.heads l.fn.watched l.watched l.from l.pending l.watch l.to

abbrev pub decreases-loop-pending : goal.decreases-loop-pending
decreases-loop-pending l = chain_length l.links (length l.links) l.pending
