use Rattle.std.proofs.Common.{◌≡◌, length}
use Rattle.sat_analyze.specs.Marked.{IsLowest}
use Rattle.sat_analyze.proofs.MarkLemmas.{MarksFirst}
use Rattle.sat_analyze.proofs.marks.Marks.mark.Given as goal

abbrev pub invariant-loop-lit : goal.invariant-loop-lit
invariant-loop-lit l = record {
  sized : length l.self.seen.items ≡ length l.fn.self.seen.items;
  start : l.self.start ≡ l.fn.self.start;
  lowest : IsLowest l.self.seen.items l.self.start l.self.lowest;
  first : MarksFirst l.positions l.lits l.lit-index l.fn.self.seen.items l.self.seen.items;
}
