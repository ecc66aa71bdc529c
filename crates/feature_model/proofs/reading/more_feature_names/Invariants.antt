use Rattle.std.proofs.Common.{◌≡◌, [], ◌∷◌, length}
use Rattle.smv_expr.specs.declared.kind.Kind.TheVariants as k
use Rattle.smv_expr.specs.Reading.{read_fold, pushed}
use Rattle.feature_model.specs.TextReaders.{read_next_feature_name, read_more_feature_names}
use Rattle.feature_model.proofs.reading.more_feature_names.Given as goal

abbrev pub invariant-rounds : goal.invariant-rounds
invariant-rounds l = read_more_feature_names l.fn.tokens ≡ read_fold (k.Comma ∷ []) read_next_feature_name pushed l.found l.tokens

abbrev pub decreases-rounds : goal.decreases-rounds
decreases-rounds l = length l.tokens
