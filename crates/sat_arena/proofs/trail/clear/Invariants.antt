use Rattle.std.proofs.Common.{◌≡◌, ◌&&◌, ℕ, length, take, not}
use Rattle.sat_arena.specs.Trails.{true_in, marked}
use Rattle.sat_arena.proofs.trail.clear.Given as goal

abbrev pub invariant-loop-entry : goal.invariant-loop-entry
invariant-loop-entry l = record {
  length : length l.truth ≡ length l.fn.truth;
  cleared : (x : ℕ) → marked l.truth x ≡ (marked l.fn.truth x && not (true_in (take l.entry-index l.entry-items) x));
}
