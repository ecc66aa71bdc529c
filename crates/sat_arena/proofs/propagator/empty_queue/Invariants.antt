use Rattle.std.proofs.Common.{◌≡◌, ◌≤◌, ◌+◌, ◌-◌, length}
use Rattle.sat_arena.specs.ArenaState.{clauses_of}
use Rattle.sat_arena.specs.Deduced.{Deduces}
use Rattle.sat_arena.specs.Justified.{current_level}
use Rattle.sat_arena.specs.Watches.{KeepsWatches}
use Rattle.sat_arena.specs.PropagatorState.{AreCurrentFrom}
use Rattle.sat_arena.proofs.propagator.empty_queue.Given as goal

abbrev pub invariant-loop-at : goal.invariant-loop-at
invariant-loop-at l = record {
  others : l.arena ≡ record l.fn.arena { watched = l.arena.watched };
  vars : l.trail.vars ≡ l.fn.trail.vars;
  deduced : Deduces (clauses_of l.fn.arena.stored) (current_level l.fn.trail.entries) l.fn.trail.entries l.trail.entries;
  within : l.at ≤ length l.trail.entries;
  later : l.head ≤ l.at;
  current : AreCurrentFrom l.trail.entries l.at;
  keeps : KeepsWatches l.trail.entries l.at (clauses_of l.fn.arena.stored) l.arena.watched;
}

abbrev pub decreases-loop-at : goal.decreases-loop-at
decreases-loop-at l = l.trail.vars + 2 - l.at
