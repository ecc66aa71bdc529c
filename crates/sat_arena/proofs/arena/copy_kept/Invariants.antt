use Rattle.std.proofs.Common.{◌≡◌, take}
use Rattle.sat_arena.specs.Trails.{marked}
use Rattle.sat_arena.specs.ArenaState.{is_satisfied}
use Rattle.sat_arena.specs.Reclaimed.{AreCopied}
use Rattle.sat_arena.proofs.arena.copy_kept.Given as goal

abbrev pub invariant-loop-at : goal.invariant-loop-at
invariant-loop-at l = record {
  vars : l.kept.vars ≡ l.fn.kept.vars;
  copied : AreCopied (is_satisfied (marked l.literal_set)) (take l.at l.arena.stored) l.arena l.kept;
}
