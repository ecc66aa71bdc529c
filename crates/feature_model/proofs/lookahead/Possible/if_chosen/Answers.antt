use Rattle.feature_model.proofs.LookaheadLemmas.{chosen_value}
use Rattle.feature_model.proofs.lookahead.Possible.if_chosen.Goals as goal

pub returns : goal.returns
returns c = chosen_value c.args.f c.without.result c.without.ensures.others
