use Rattle.std.proofs.Common.{not}
use Rattle.feature_model.proofs.lookahead.Lookahead.implies.Goals as goal

pub returns : goal.returns
returns c partial one two h k = c.or.ensures partial (λ p. not (one p)) two (c.negated.ensures partial one h) k
