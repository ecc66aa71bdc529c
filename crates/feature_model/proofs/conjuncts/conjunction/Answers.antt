use Rattle.feature_model.proofs.WellFormedLemmas.{root_there, line_below}
use Rattle.feature_model.proofs.conjuncts.conjunction.Goals as goal

pub named-requires : goal.named-requires
named-requires c = root_there c.args.model.now c.as_slice-names.result.now c.as_slice-names.ensures c.requires

pub with_line-requires : goal.with_line-requires
with_line-requires c = line_below c.args.model.now c.as_slice-names.result.now c.as_slice-line-items.result.now c.as_slice-names.ensures c.as_slice-line-items.ensures c.requires c.loop-line.line-index c.line-item.result c.loop-line-test.true c.line-item.is
