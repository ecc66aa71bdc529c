use Rattle.std.proofs.Common.{◌≡◌, drop}
use Rattle.smv_meaning.specs.Runs.{first_fault}
use Rattle.fsmv_top.specs.FeatureNames.{unlisted}
use Rattle.fsmv_top.proofs.feature_names.check_listed_texts.Given as goal

abbrev pub invariant-loop-feature : goal.invariant-loop-feature
invariant-loop-feature l = first_fault (unlisted l.names) (drop l.feature-index l.features) ≡ first_fault (unlisted l.names) l.features
