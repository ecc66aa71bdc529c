use Rattle.std.proofs.Common.{◌≡◌, ◌≤◌, length, take}
use Rattle.sat_arena.specs.Trails.{up_to}
use Rattle.sat_arena.proofs.trail.count_up_to.Given as goal

abbrev pub invariant-loop-kept : goal.invariant-loop-kept
invariant-loop-kept l = record {
  within : l.kept ≤ length l.entries;
  kept : up_to l.level (take l.kept l.entries) ≡ up_to l.level l.entries;
}

abbrev pub decreases-loop-kept : goal.decreases-loop-kept
decreases-loop-kept l = l.kept
