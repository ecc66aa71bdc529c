use Rattle.feature_model.proofs.SetLemmas.{has_upper}
use Rattle.feature_model.proofs.sets.features_from.Goals as goal

pub returns-then-count-lt64 : goal.returns-then-count-lt64
returns-then-count-lt64 c f = has_upper c.args.count f c.if-count-lt64.true
