use Rattle.std.proofs.Common.{◌≡◌, ◌<◌, ◌≤◌, ℕ, length, get_or}
use Rattle.sat_arena.specs.declared.trail.Assigned.{Assigned}
use Rattle.sat_arena.specs.Moved.{IsMovedEntry}
use Rattle.sat_arena.proofs.moved.move_reasons.Given as goal

abbrev pub invariant-loop-at : goal.invariant-loop-at
invariant-loop-at l = record {
  vars : l.trail.vars ≡ l.fn.trail.vars;
  long : length l.trail.entries ≡ length l.fn.trail.entries;
  passed : (i : ℕ) (d : Assigned) → i < l.at → IsMovedEntry l.arena (get_or l.fn.trail.entries i d) (get_or l.trail.entries i d);
  waiting : (i : ℕ) (d : Assigned) → l.at ≤ i → get_or l.trail.entries i d ≡ get_or l.fn.trail.entries i d;
}
