-- What a whole text that is to be features is.
use Rattle.std.proofs.Common.{◌≡◌, ℕ, true, false, [], ◌∷◌, ◌∙◌, sym, ap, List}
use Rattle.std.specs.Prelude.{Result, Ok, Err}
use Rattle.smv_ast.specs.declared.fault.Fault.{Fault}
use Rattle.smv_expr.specs.declared.kind.Kind.{Kind}
use Rattle.smv_expr.specs.declared.kind.Kind.TheVariants as k
use Rattle.smv_expr.specs.Lexicon.{Bytes, tokens}
use Rattle.smv_expr.specs.Language.{Tokens}
use Rattle.smv_expr.specs.Answer.{Verdict, IsText, AreWithin, IsResultOf, result_of}
use Rattle.smv_expr.specs.Reading.{remaining_of}
use Rattle.smv_expr.specs.Reading.Outcome.{Read}
use Rattle.smv_expr.specs.Limits.Limit.{AnyHeight}
use Rattle.smv_expr.proofs.Answering as answering
use Rattle.feature_parse.specs.declared.features.FeatureReading.{FeatureReading}
use Rattle.feature_parse.specs.Grammar.{features}
use Rattle.feature_parse.specs.Readers.{read_features}
use Rattle.feature_parse.specs.Low.{low_features}
use Rattle.feature_parse.specs.Answer.{limited_features, FeaturesAnswer, ReadsFeatures, RefusesFeatures}
use Rattle.feature_parse.proofs.FeatureRules.{features_rule}
use Rattle.feature_parse.proofs.FeatureLimited.{features_obey}
use Rattle.feature_parse.proofs.FeatureLocal.{features_local}

abbrev follow_features : List Kind
follow_features = k.Feature ∷ []

-- Every list of tokens is read as the grammar and the limits say.
verdict : (ts : Tokens) → Verdict features low_features ts (limited_features ts)
verdict = answering.verdict features follow_features low_features limited_features (read_features (AnyHeight false)) (read_features (AnyHeight true))
    (features_rule false) (features_rule true) features_obey features_obey features_local

-- Each text that is passed is within the limits.
within : (ts : Tokens) → AreWithin features low_features ts (remaining_of (limited_features ts))
within = answering.within features follow_features low_features limited_features (read_features (AnyHeight false)) (read_features (AnyHeight true))
    (features_rule false) (features_rule true) features_obey features_obey features_local

-- Each text is read.
pub complete : (ts : Tokens) (r : FeatureReading) → IsText features low_features ts r → limited_features ts ≡ Read r []
complete = answering.complete features follow_features low_features limited_features (read_features (AnyHeight false)) (features_rule false) features_obey

pub answered : (file : ℕ) (bytes : Bytes) (result : Result FeatureReading Fault) → IsResultOf file bytes (limited_features (tokens file bytes)) result → FeaturesAnswer file bytes result
answered = answering.answered features low_features limited_features verdict within

-- no file is read and refused
pub reads_or_refuses : (file : ℕ) (bytes : Bytes) (r : FeatureReading) (f : Fault) → ReadsFeatures file bytes r → RefusesFeatures file bytes f → ⊥
reads_or_refuses file bytes r f reads refuses = let both : Err f ≡ Ok r = refuses.is ∙ ap (result_of file bytes) (complete (tokens file bytes) r reads) in cc

same_reading : (r r' : FeatureReading) → Read r [] ≡ Read r' [] → r ≡ r'
same_reading r r' e = cc

-- a file is one list of features at most
pub reads_once : (file : ℕ) (bytes : Bytes) (r r' : FeatureReading) → ReadsFeatures file bytes r → ReadsFeatures file bytes r' → r ≡ r'
reads_once file bytes r r' x y = same_reading r r' (sym (complete (tokens file bytes) r x) ∙ complete (tokens file bytes) r' y)
