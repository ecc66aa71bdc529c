-- The files of a family: a base model, a feature model, and features.
use Rattle.std.specs.Prelude.{◌≡◌, ℕ, ◌+◌, ◌<◌, ◌≤◌, Bool, IsTrue, All, List, [], ◌∷◌, ◌++◌, length, Option, Some, IfSome, Ok, Err, ◌⊎◌}
use Rattle.smv_ast.specs.declared.program.Program.{Program}
use Rattle.smv_ast.specs.declared.program.Skipped.{Skipped}
use Rattle.smv_ast.specs.declared.feature.Feature.{Feature}
use Rattle.smv_ast.specs.declared.feature.Family.{Family}
use Rattle.smv_ast.specs.declared.model.FeatureModel.{FeatureModel}
use Rattle.smv_ast.specs.declared.fault.Fault.{Fault}
use Rattle.smv_ast.specs.declared.fault.Fault.TheVariants as fault
use Rattle.smv_expr.specs.Lexicon.{Bytes}
use Rattle.smv_parse.specs.Answer.{Reads, Refuses}
use Rattle.feature_model.specs.ModelAnswer.{ReportsModel}
use Rattle.feature_parse.specs.Answer.{ReadsFeatures, RefusesFeatures}
use Rattle.fsmv_top.specs.Words.{Weave}

-- the content of each file, where the object gives it
abbrev pub Held : Type 0
Held = List ℕ → Option Bytes

-- the greatest length of a file of a model or a feature
abbrev pub most_bytes : ℕ
most_bytes = 16777216

-- the file may have these bytes: they are the given content, if any
abbrev pub MayHold : Option Bytes → Bytes → Type 0
MayHold given bytes = IfSome given (λ held. held ≡ bytes)

-- ---- one file

-- what the bytes of the file of a number say
abbrev pub Saying : Type 0 → Type 1
Saying A = ℕ → Bytes → A → Type 0

-- the file has bytes within the limit that say this
pub record Holds {A : Type 0} (says : Saying A) (file : ℕ) (given : Option Bytes) (a : A) : Type 0 where
  pub bytes : Bytes
  pub held : MayHold given bytes
  pub within : length bytes ≤ most_bytes
  pub said : says file bytes a

-- the file is longer than the limit
pub record IsTooLong (file : ℕ) (given : Option Bytes) (f : Fault) : Type 0 where
  pub fault : f ≡ fault.TooLong (Some (record { file = file; at = 0 }))
  pub longer : IfSome given (λ held. most_bytes < length held)

-- the file is refused: it is too long, or its bytes are refused
abbrev pub IsRefusedFile : Saying Fault → ℕ → Option Bytes → Fault → Type 0
IsRefusedFile refuses file given f = IsTooLong file given f ⊎ Holds refuses file given f

-- ---- what the files say

-- the bytes are the text of a base, its skipped sections removed
abbrev pub IsBase : Saying Program
IsBase file bytes base = (skipped : List Skipped)
    × Reads file bytes (record { program = base; skipped = skipped })

-- the bytes are the text of a feature model
abbrev pub IsModel : Saying FeatureModel
IsModel file bytes model = ReportsModel file bytes (Ok model)

-- the bytes are refused as the text of a feature model
abbrev pub RefusesModel : Saying Fault
RefusesModel file bytes f = ReportsModel file bytes (Err f)

-- the bytes are the texts of features, their skipped sections removed
abbrev pub AreFeatures : Saying (List Feature)
AreFeatures file bytes features = (skipped : List Skipped)
    × ReadsFeatures file bytes (record { features = features; skipped = skipped })

-- the features of the files of these names, in order; the first file has the number
abbrev pub HoldFeatures : Held → ℕ → List (List ℕ) → List Feature → Type 0
HoldFeatures held file [] features = features ≡ []
HoldFeatures held file (name ∷ more) features = (first others : List Feature)
    × Holds AreFeatures file (held name) first × HoldFeatures held (file + 1) more others
    × (features ≡ first ++ others)

-- the family whose texts are in the files that the words name; they are numbered in the order of the words
pub record HoldsFamily (held : Held) (words : Weave) (family : Family) : Type 0 where
  pub base : Holds IsBase 0 (held words.base) family.base
  pub model : Holds IsModel 1 (held words.model) family.model
  pub features : HoldFeatures held 2 words.features family.features

-- the files that the words name may be read
pub record MayRead (may_read : List ℕ → Bool) (words : Weave) : Type 0 where
  pub base : IsTrue (may_read words.base)
  pub model : IsTrue (may_read words.model)
  pub features : All (λ name. IsTrue (may_read name)) words.features

-- ---- where reading ends

-- a reason to end at a file, given what refuses its bytes, its number and its name
abbrev pub Reason : Type 1
Reason = Saying Fault → ℕ → List ℕ → Type 0

-- reading ends at one of the feature files, and those before it are read
pub record EndsAmong (held : Held) (file : ℕ) (names : List (List ℕ)) (reason : Reason) : Type 0 where
  pub before : List (List ℕ)
  pub name : List ℕ
  pub after : List (List ℕ)
  pub split : names ≡ before ++ name ∷ after
  pub features : List Feature
  pub read : HoldFeatures held file before features
  pub ends : reason RefusesFeatures (file + length before) name

-- reading ends at the first file that gives the reason, and those before it are read
pub data EndsReading (held : Held) (words : Weave) (reason : Reason) : Type 0 where
  at_base : reason Refuses 0 words.base → EndsReading held words reason
  at_model : (base : Program) → Holds IsBase 0 (held words.base) base → reason RefusesModel 1 words.model
      → EndsReading held words reason
  at_features : (base : Program) → Holds IsBase 0 (held words.base) base
      → (model : FeatureModel) → Holds IsModel 1 (held words.model) model
      → EndsAmong held 2 words.features reason → EndsReading held words reason

-- the file is refused with this fault
abbrev pub refused_with : Held → Fault → Reason
refused_with held f refuses file name = IsRefusedFile refuses file (held name) f
