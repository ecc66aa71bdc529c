use Rattle.std.proofs.Common.{ℕ, ◌<◌, get_or}
use Rattle.sat_analyze.specs.Marked.{IsCovered}
use Rattle.sat_analyze.proofs.marks.Marks.cover.Given as goal

abbrev pub invariant-loop-lit : goal.invariant-loop-lit
invariant-loop-lit l = (k d : ℕ) → k < l.lit-index → IsCovered l.entries l.positions l.self.seen.items (get_or l.lits k d)
