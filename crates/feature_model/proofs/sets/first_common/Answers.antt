use Rattle.feature_model.proofs.SetLemmas.{common_of}
use Rattle.feature_model.proofs.sets.first_common.Goals as goal

pub returns : goal.returns
returns c = common_of c.args.one c.args.two c.first_feature.result c.first_feature.ensures
