use Rattle.std.proofs.Common.{not, ◌||◌}
use Rattle.std.specs.Bool.{beq}
use Rattle.feature_model.proofs.LookaheadLemmas.{both_ways, same_rule}
use Rattle.feature_model.proofs.lookahead.Lookahead.iff.Goals as goal

pub returns : goal.returns
returns c partial one two h k = same_rule partial _ (λ p. beq (one p) (two p)) c.and.result (λ p. both_ways (one p) (two p))
    (c.and.ensures partial (λ p. not (one p) || two p) (λ p. not (two p) || one p) (c.implies.ensures partial one two h k) (c.implies-2.ensures partial two one k h))
