use Rattle.feature_model.proofs.SetLemmas.{has_absent}
use Rattle.feature_model.proofs.sets.complement.Goals as goal

pub returns : goal.returns
returns c f small = has_absent c.args.features f c.ranges.features.fits small
