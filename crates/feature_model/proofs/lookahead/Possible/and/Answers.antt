use Rattle.feature_model.proofs.LookaheadLemmas.{allows_both}
use Rattle.feature_model.proofs.lookahead.Possible.and.Goals as goal

pub returns : goal.returns
returns c = allows_both c.args.self c.args.other
