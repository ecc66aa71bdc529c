use Rattle.std.proofs.Common.{rules}
use Rattle.smv_kinds.proofs.IntervalLemmas.{clipped_ends}
use Rattle.smv_kinds.proofs.intervals.difference.Goals as goal

pub returns : goal.returns
returns c = search (rules, clipped_ends _ _ _ _ c.saturating_sub.ensures c.saturating_sub-2.ensures)
