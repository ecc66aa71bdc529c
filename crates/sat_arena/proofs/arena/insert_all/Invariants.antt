use Rattle.std.proofs.Common.{◌≡◌, ℕ, length, take}
use Rattle.sat_arena.specs.Trails.{marked}
use Rattle.sat_arena.specs.ArenaState.{among}
use Rattle.sat_arena.proofs.arena.insert_all.Given as goal

abbrev pub invariant-loop-lit : goal.invariant-loop-lit
invariant-loop-lit l = record {
  sized : length l.literal_set ≡ length l.fn.literal_set;
  is_set_of : (x : ℕ) → marked l.literal_set x ≡ among (take l.lit-index l.lits) x;
}
