use Rattle.std.proofs.Common.{◌≡◌, ◌<◌, length}
use Rattle.std.specs.Prelude.{All}
use Rattle.sat_lits.specs.Literals.{negation}
use Rattle.sat_arena.specs.Deduced.{Deduces}
use Rattle.sat_arena.specs.Links.{chain_length}
use Rattle.sat_arena.specs.ArenaState.{clauses_of}
use Rattle.sat_arena.specs.Watches.{KeepsWatches, IsVisiting}
use Rattle.sat_arena.proofs.visit.visit_list.Given as goal

abbrev pub invariant-loop-pending : goal.invariant-loop-pending
invariant-loop-pending l = record {
  vars : l.trail.vars ≡ l.fn.trail.vars;
  deduced : Deduces (clauses_of l.clauses) l.entry.level l.fn.trail.entries l.trail.entries;
  keeps : KeepsWatches l.trail.entries l.head (clauses_of l.clauses) l.watched;
  within : All (λ w. w < length l.heads) l.watched;
  walking : IsVisiting l.trail.entries l.head (clauses_of l.clauses) l.links l.heads l.watched (negation l.entry.lit) l.pending;
}

abbrev pub decreases-loop-pending : goal.decreases-loop-pending
decreases-loop-pending l = chain_length l.links (length l.links) l.pending
