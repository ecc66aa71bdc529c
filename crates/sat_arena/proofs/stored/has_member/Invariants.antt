use Rattle.std.proofs.Common.{◌≡◌, false, take}
use Rattle.std.specs.List.{list_any}
use Rattle.sat_arena.specs.Trails.{marked}
use Rattle.sat_arena.proofs.stored.has_member.Given as goal

abbrev pub invariant-loop-lit : goal.invariant-loop-lit
invariant-loop-lit l = list_any (marked l.literal_set) (take l.lit-index l.lits) ≡ false
