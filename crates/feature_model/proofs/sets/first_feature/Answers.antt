use Rattle.std.proofs.Common.{arith}
use Rattle.feature_model.proofs.SetLemmas.{first_of}
use Rattle.feature_model.proofs.sets.first_feature.Goals as goal

pub returns : goal.returns
returns c = first_of c.args.features c.ranges.features.fits (omega arith)
