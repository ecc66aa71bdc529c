use Rattle.std.proofs.Common.{rules, pos}
use Rattle.smv_kinds.proofs.IntervalLemmas.{clipped_high}
use Rattle.smv_kinds.proofs.intervals.remainder.Goals as goal

pub returns : goal.returns
returns c = search (rules, clipped_high _ (pos 0) _ c.saturating_sub.ensures)
