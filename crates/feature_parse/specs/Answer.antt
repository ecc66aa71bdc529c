-- What is answered of a file that is to be features.
use Rattle.std.specs.Prelude.{ℕ, Result, Err}
use Rattle.smv_ast.specs.declared.fault.Fault.{Fault}
use Rattle.smv_expr.specs.Lexicon.{Bytes, tokens}
use Rattle.smv_expr.specs.Reading.{Reader}
use Rattle.smv_expr.specs.Answer.{Answers, Reports, IsText}
use Rattle.smv_parse.specs.Readers.{the_limit}
use Rattle.feature_parse.specs.declared.features.FeatureReading.{FeatureReading}
use Rattle.feature_parse.specs.Grammar.{features}
use Rattle.feature_parse.specs.Readers.{read_features}
use Rattle.feature_parse.specs.Low.{low_features}

-- the reader of features within the limits
abbrev pub limited_features : Reader FeatureReading
limited_features = read_features the_limit

-- what is answered of the bytes of a file, unless memory runs out
abbrev pub FeaturesAnswer : ℕ → Bytes → Result FeatureReading Fault → Type 0
FeaturesAnswer = Answers features low_features limited_features

-- the bytes of the file are these features and no others, within the limits of nesting
abbrev pub ReadsFeatures : ℕ → Bytes → FeatureReading → Type 0
ReadsFeatures file bytes reading = IsText features low_features (tokens file bytes) reading

-- the bytes of the file are refused with this fault
abbrev pub RefusesFeatures : ℕ → Bytes → Fault → Type 0
RefusesFeatures file bytes f = Reports features low_features limited_features file bytes (Err f)
