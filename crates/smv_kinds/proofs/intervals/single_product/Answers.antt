use Rattle.std.proofs.Common.{rules}
use Rattle.smv_kinds.proofs.IntervalLemmas.{clipped_ends}
use Rattle.smv_kinds.proofs.intervals.single_product.Goals as goal

pub returns : goal.returns
returns c = search (rules, clipped_ends _ _ _ _ c.saturating_mul-product.ensures c.saturating_mul-product.ensures)
