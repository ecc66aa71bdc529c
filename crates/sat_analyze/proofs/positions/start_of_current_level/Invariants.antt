use Rattle.std.proofs.Common.{◌≡◌, ◌≤◌, ◌<◌, ℕ, length}
use Rattle.sat_arena.specs.declared.trail.Assigned.{Assigned}
use Rattle.sat_arena.specs.Justified.{current_level, IsEntryAt}
use Rattle.sat_analyze.proofs.positions.start_of_current_level.Given as goal

abbrev pub invariant-loop-start : goal.invariant-loop-start
invariant-loop-start l = record {
  within : l.start ≤ length l.entries;
  after : (i : ℕ) (e : Assigned) → IsEntryAt l.entries i e → l.start ≤ i → (e.level ≡ current_level l.entries) × (0 < current_level l.entries);
}

abbrev pub decreases-loop-start : goal.decreases-loop-start
decreases-loop-start l = l.start
