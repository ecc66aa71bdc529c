-- Features whose expressions are low enough: the tree of each is no higher than a thousand.
use Rattle.std.specs.Prelude.{Bool, ◌&&◌}
use Rattle.std.specs.List.{list_all}
use Rattle.smv_ast.specs.declared.feature.Joined.{Joined}
use Rattle.smv_ast.specs.declared.feature.Action.{Action}
use Rattle.smv_ast.specs.declared.feature.Action.TheVariants.{Impose, Treat}
use Rattle.smv_ast.specs.declared.feature.Change.{Change}
use Rattle.smv_ast.specs.declared.feature.Feature.{Feature}
use Rattle.smv_expr.specs.ExprAnswer.{is_low}
use Rattle.smv_parse.specs.Low.{low_section}
use Rattle.feature_parse.specs.declared.features.FeatureReading.{FeatureReading}

-- each expression that a module gets is low
abbrev pub low_joined : Joined → Bool
low_joined joined = list_all low_section joined.sections

-- the right side is low
abbrev pub low_action : Action → Bool
low_action (Impose left name right) = is_low right
low_action (Treat path right) = is_low right

-- the condition and the right side are low
abbrev pub low_change : Change → Bool
low_change change = is_low change.cond && low_action change.action

-- each expression of the feature is low
abbrev pub low_feature : Feature → Bool
low_feature feature = list_all low_joined feature.joins && list_all low_change feature.changes

-- each expression of the features is low
abbrev pub low_features : FeatureReading → Bool
low_features reading = list_all low_feature reading.features
