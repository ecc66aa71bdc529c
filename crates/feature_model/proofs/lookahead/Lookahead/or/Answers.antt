use Rattle.std.proofs.Common.{not, ◌&&◌, ◌||◌}
use Rattle.feature_model.proofs.LookaheadLemmas.{de_morgan, same_rule}
use Rattle.feature_model.proofs.lookahead.Lookahead.or.Goals as goal

pub returns : goal.returns
returns c partial one two h k = same_rule partial _ (λ p. one p || two p) c.negated-3.result (λ p. de_morgan (one p) (two p))
    (c.negated-3.ensures partial (λ p. not (one p) && not (two p)) (c.and.ensures partial (λ p. not (one p)) (λ p. not (two p)) (c.negated.ensures partial one h) (c.negated-2.ensures partial two k)))
