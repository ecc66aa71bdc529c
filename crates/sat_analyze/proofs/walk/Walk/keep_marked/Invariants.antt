use Rattle.std.proofs.Common.{◌≡◌, ◌≤◌}
use Rattle.sat_analyze.specs.Walked.{IsWalk, KeepsMore}
use Rattle.sat_analyze.proofs.walk.Walk.keep_marked.Given as goal

abbrev pub invariant-loop-position : goal.invariant-loop-position
invariant-loop-position l = record {
  walk : IsWalk l.arena.stored l.entries l.position l.self;
  more : KeepsMore l.entries l.keeping l.from l.fn.self.kept.items l.self;
  start : l.self.marks.start ≡ l.fn.self.marks.start;
  apart : l.from ≤ l.fn.self.marks.lowest → l.from ≤ l.self.marks.lowest;
  low : l.position ≤ l.from;
}

abbrev pub decreases-loop-position : goal.decreases-loop-position
decreases-loop-position l = l.position
