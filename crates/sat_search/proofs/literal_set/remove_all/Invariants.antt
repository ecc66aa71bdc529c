use Rattle.std.proofs.Common.{◌≡◌, ◌&&◌, ℕ, length, take, not}
use Rattle.sat_arena.specs.Trails.{marked}
use Rattle.sat_search.specs.Assumed.{assumed}
use Rattle.sat_search.proofs.literal_set.remove_all.Given as goal

abbrev pub invariant-loop-lit : goal.invariant-loop-lit
invariant-loop-lit l = record {
  sized : length l.flags.items ≡ length l.fn.flags.items;
  cleared : (x : ℕ) → marked l.flags.items x ≡ (marked l.fn.flags.items x && not (assumed (take l.lit-index l.lits) x));
}
