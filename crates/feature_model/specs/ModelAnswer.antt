-- What is answered of a file that is to be a feature model.
use Rattle.std.specs.Prelude.{◌≡◌, ℕ, Option, Some, None, Result, Ok, Err}
use Rattle.smv_ast.specs.declared.syntax.Span.{Span}
use Rattle.smv_ast.specs.declared.model.FeatureModel.{FeatureModel}
use Rattle.smv_ast.specs.declared.fault.Fault.{Fault}
use Rattle.smv_ast.specs.declared.fault.Fault.TheVariants as fault
use Rattle.smv_expr.specs.Lexicon.{Bytes, tokens}
use Rattle.smv_expr.specs.Language.{Tokens}
use Rattle.smv_expr.specs.Reading.{Outcome}
use Rattle.smv_expr.specs.Reading.Outcome.{Read, Stop}
use Rattle.smv_expr.specs.Answer.{result_of}
use Rattle.feature_model.specs.TextReaders.{read_strict_text}
use Rattle.feature_model.specs.TextAnswer.{IsModelText, TextVerdict}
use Rattle.feature_model.specs.NameFaults.{text_fault}
use Rattle.feature_model.specs.ModelOfText.{model_of}
use Rattle.feature_model.specs.declared.text.ModelText.{ModelText}
use Rattle.feature_model.specs.declared.text.TextReading.{TextReading}

-- how a reading is reported: at the first expression of a constraint that is not propositional, or as readings of whole
-- files are
abbrev pub read_result : ℕ → Bytes → ModelText → Option Span → Tokens → Result ModelText Fault
read_result file bytes t (Some at) remaining = Err (fault.Syntax (Some at))
read_result file bytes t None remaining = result_of file bytes (Read t remaining)

-- how an outcome is reported
abbrev pub text_result : ℕ → Bytes → Outcome TextReading → Result ModelText Fault
text_result file bytes (Read found remaining) = read_result file bytes found.text found.refused remaining
text_result file bytes (Stop cause remaining) = result_of file bytes (Stop cause remaining)

-- how a text is reported that is read: its first fault, or its feature model
abbrev pub numbered_result : ModelText → Option Fault → Result FeatureModel Fault
numbered_result t (Some f) = Err f
numbered_result t None = Ok (model_of t)

-- how a file is reported
abbrev pub model_result : Result ModelText Fault → Result FeatureModel Fault
model_result (Ok t) = numbered_result t (text_fault t)
model_result (Err f) = Err f

-- the answer, unless memory runs out
abbrev pub Is : {A : Type 0} → Result A Fault → Result A Fault → Type 0
Is expected (Err fault.NoMemory) = Unit {0}
Is expected result = result ≡ expected

-- The answer reports the reading within the limits, and what that says of the text.
pub record ReportsModel (file : ℕ) (bytes : Bytes) (result : Result FeatureModel Fault) : Type 0 where
  pub is : result ≡ model_result (text_result file bytes (read_strict_text (tokens file bytes)))
  pub verdict : TextVerdict (tokens file bytes) (read_strict_text (tokens file bytes))

-- what is answered of the bytes of a file, unless memory runs out
abbrev pub ModelAnswer : ℕ → Bytes → Result FeatureModel Fault → Type 0
ModelAnswer file bytes (Err fault.NoMemory) = Unit {0}
ModelAnswer file bytes result = ReportsModel file bytes result

-- the bytes of the file are the text of this feature model, within the limits, without a fault of its names
pub record ReadsModel (file : ℕ) (bytes : Bytes) (model : FeatureModel) : Type 0 where
  pub text : ModelText
  pub reads : IsModelText (tokens file bytes) text
  pub faultless : text_fault text ≡ None
  pub is : model ≡ model_of text
