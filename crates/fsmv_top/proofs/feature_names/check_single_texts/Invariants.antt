use Rattle.std.proofs.Common.{◌≡◌, drop}
use Rattle.smv_meaning.specs.NameSets.{in_set, no_name}
use Rattle.fsmv_top.specs.FeatureNames.{second_text}
use Rattle.fsmv_top.proofs.feature_names.check_single_texts.Given as goal

abbrev pub invariant-loop-feature : goal.invariant-loop-feature
invariant-loop-feature l = second_text (in_set l.seen) (drop l.feature-index l.features) ≡ second_text no_name l.features
