-- The text of one product of a family.
use Rattle.std.specs.Prelude.{◌≡◌, ℕ, List, [], Option, Some, None, Result, Ok, Err}
use Rattle.smv_ast.specs.PrintedProgram.{printed_program}
use Rattle.smv_ast.specs.declared.program.Program.{Program}
use Rattle.smv_ast.specs.declared.feature.Family.{Family}
use Rattle.smv_ast.specs.declared.model.FeatureModel.{FeatureModel}
use Rattle.smv_ast.specs.declared.model.Product.{Product}
use Rattle.smv_ast.specs.declared.fault.Fault.{Fault}
use Rattle.smv_ast.specs.declared.fault.Fault.TheVariants as fault
use Rattle.smv_names.specs.NamesFault.{names_fault}
use Rattle.feature_model.specs.NamedProducts.{IsNamed}
use Rattle.feature_model.specs.Validity.{IsValid}
use Rattle.integrate.specs.ProductText.{text_of}
use Rattle.fsmv_top.specs.Words.{Weave, listed_names}
use Rattle.fsmv_top.specs.Input.{Held, HoldsFamily, EndsReading, refused_with}
use Rattle.fsmv_top.specs.FeatureNames.{family_fault}

-- ---- the product

-- the word lists the names of the features of a valid product
pub record IsChosen (model : FeatureModel) (word : List ℕ) (p : Product) : Type 0 where
  pub named : IsNamed model.names (listed_names word) p
  pub valid : IsValid model p

-- no product is valid
abbrev pub HasNoProduct : FeatureModel → Type 0
HasNoProduct model = (p : Product) → IsValid model p → ⊥

-- some product is valid
pub record HasProduct (model : FeatureModel) : Type 0 where
  pub product : Product
  pub valid : IsValid model product

-- no product is chosen: none is valid, or else the word lists none that is
pub data IsNoChoice (model : FeatureModel) (word : List ℕ) (f : Fault) : Type 0 where
  no_product : HasNoProduct model → f ≡ fault.NoProduct None → IsNoChoice model word f
  not_valid : HasProduct model → ((p : Product) → IsChosen model word p → ⊥)
      → f ≡ fault.NotValid None word → IsNoChoice model word f

-- the valid product that the word lists, if there is one
abbrev pub IsChoice : FeatureModel → List ℕ → Option Product → Type 0
IsChoice model word (Some p) = IsChosen model word p
IsChoice model word None = (p : Product) → IsChosen model word p → ⊥

-- the fault of a choice, unless memory runs out
abbrev pub FailsChoice : FeatureModel → List ℕ → Fault → Type 0
FailsChoice model word fault.NoMemory = Unit {0}
FailsChoice model word f = IsNoChoice model word f

-- ---- its text

-- the text of a product, where the names of the base have no fault
abbrev pub text_after : Option Fault → Family → Product → Result Program Fault
text_after None family p = text_of family p
text_after (Some f) family p = Err f

-- the text of a product; or the first fault of the names of the base, else of a feature that is applied
abbrev pub checked_text : Family → Product → Result Program Fault
checked_text family p = text_after (names_fault family.base) family p

-- the same, unless memory runs out
abbrev pub IsCheckedText : Family → Product → Result Program Fault → Type 0
IsCheckedText family p (Err fault.NoMemory) = Unit {0}
IsCheckedText family p result = checked_text family p ≡ result

-- the model is the text of the product that the word lists
pub record IsText (family : Family) (word : List ℕ) (program : Program) : Type 0 where
  pub sound : family_fault family ≡ None
  pub product : Product
  pub chosen : IsChosen family.model word product
  pub text : checked_text family product ≡ Ok program

-- the product that the word lists has no text, and this is the first fault
pub data HasNoText (family : Family) (word : List ℕ) (f : Fault) : Type 0 where
  names : family_fault family ≡ Some f → HasNoText family word f
  choice : family_fault family ≡ None → IsNoChoice family.model word f → HasNoText family word f
  text : family_fault family ≡ None → (p : Product) → IsChosen family.model word p
      → checked_text family p ≡ Err f → HasNoText family word f

-- the text of the product that the word lists, or the first fault, unless memory runs out
abbrev pub IsTextOrFault : Family → List ℕ → Result Program Fault → Type 0
IsTextOrFault family word (Ok program) = IsText family word program
IsTextOrFault family word (Err fault.NoMemory) = Unit {0}
IsTextOrFault family word (Err f) = HasNoText family word f

-- ---- the outcomes

-- the files are those of a family, and this is the canonical text of the product that the words name
pub record IsWoven (held : Held) (words : Weave) (text : List ℕ) : Type 0 where
  pub family : Family
  pub holds : HoldsFamily held words family
  pub program : Program
  pub is : IsText family words.product program
  pub printed : text ≡ printed_program program

-- The first fault for which files are refused: that of a file, else that of their family. The names are those of
-- the feature model's features, once all files are read.
pub data IsRefused (held : Held) (words : Weave) (names : List (List ℕ)) (f : Fault) : Type 0 where
  file : names ≡ [] → EndsReading held words (refused_with held f) → IsRefused held words names f
  family : (family : Family) → HoldsFamily held words family → names ≡ family.model.names
      → HasNoText family words.product f → IsRefused held words names f

-- ---- one answer

-- what a files object gives that gives all contents
abbrev pub Contents : Type 0
Contents = List ℕ → List ℕ

abbrev pub given : Contents → Held
given contents name = Some (contents name)

-- Files, as they are, are not both woven and refused: the product has its text or its fault, and not both.
abbrev pub NeverBoth : Type 0
NeverBoth = (contents : Contents) (words : Weave) (text : List ℕ) (names : List (List ℕ)) (f : Fault)
    → IsWoven (given contents) words text → IsRefused (given contents) words names f → ⊥

-- Files, as they are, are woven to one text at most.
abbrev pub OneText : Type 0
OneText = (contents : Contents) (words : Weave) (text other : List ℕ)
    → IsWoven (given contents) words text → IsWoven (given contents) words other → text ≡ other
