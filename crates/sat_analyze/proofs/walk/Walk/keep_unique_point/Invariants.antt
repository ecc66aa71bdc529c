use Rattle.std.proofs.Common.{◌≡◌, ◌<◌, ◌≤◌, length}
use Rattle.sat_analyze.specs.Walked.{IsWalk}
use Rattle.sat_analyze.proofs.walk.Walk.keep_unique_point.Given as goal

abbrev pub invariant-loop-self : goal.invariant-loop-self
invariant-loop-self l = record {
  walk : IsWalk l.arena.stored l.entries l.position l.self;
  kept : l.self.kept ≡ l.fn.self.kept;
  level : l.self.level ≡ l.fn.self.level;
  start : l.self.marks.start ≡ l.fn.self.marks.start;
  below : l.self.marks.lowest < length l.entries → l.self.marks.lowest < l.position;
  lower : l.fn.self.marks.lowest < length l.entries → l.self.marks.lowest < length l.entries;
  still : length l.entries ≤ l.fn.self.marks.lowest → (l.self.marks.lowest ≡ l.fn.self.marks.lowest) × (l.position ≡ length l.entries);
}

abbrev pub decreases-loop-self : goal.decreases-loop-self
decreases-loop-self l = l.position
