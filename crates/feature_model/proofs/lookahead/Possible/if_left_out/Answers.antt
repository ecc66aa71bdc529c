use Rattle.feature_model.proofs.LookaheadLemmas.{left_out_value}
use Rattle.feature_model.proofs.lookahead.Possible.if_left_out.Goals as goal

pub returns : goal.returns
returns c = left_out_value c.args.f c.without.result c.without.ensures.others
