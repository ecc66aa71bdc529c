use Rattle.feature_model.proofs.LookaheadLemmas.{allows_true, allows_false}
use Rattle.feature_model.proofs.lookahead.Possible.constant.Goals as goal

pub returns-then-value : goal.returns-then-value
returns-then-value c f small = rw c.if-value.true (allows_true f small)

pub returns-else-value : goal.returns-else-value
returns-else-value c f small = rw c.if-value.false (allows_false f small)
