use Rattle.std.proofs.Common.{◌≡◌, [], ◌∷◌, length}
use Rattle.smv_expr.specs.declared.kind.Kind.TheVariants as k
use Rattle.smv_expr.specs.Reading.{read_fold}
use Rattle.feature_parse.specs.Grammar.{with_feature}
use Rattle.smv_parse.specs.Readers.{the_limit}
use Rattle.feature_parse.specs.Readers.{read_feature, read_features}
use Rattle.feature_parse.proofs.features.features.Given as goal

abbrev pub invariant-rounds : goal.invariant-rounds
invariant-rounds l = read_features the_limit l.fn.tokens ≡ read_fold (k.Feature ∷ []) (read_feature the_limit) with_feature l.found l.tokens

abbrev pub decreases-rounds : goal.decreases-rounds
decreases-rounds l = length l.tokens
