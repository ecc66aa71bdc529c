use Rattle.feature_model.proofs.LookaheadLemmas.{allows_any}
use Rattle.feature_model.proofs.lookahead.Lookahead.unknown.Goals as goal

pub returns : goal.returns
returns c partial rule = record {
  chosen = λ f p small agrees here. allows_any f (rule p) small;
  left_out = λ f p small agrees here. allows_any f (rule p) small;
}
