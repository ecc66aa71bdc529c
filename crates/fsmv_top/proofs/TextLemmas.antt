-- From the answer of a step of weaving to that of the whole.
use Rattle.std.proofs.Common.{◌≡◌, ℕ, ◌==◌, true, false, List, None, sym, ◌∙◌, ap, subst}
use Rattle.std.specs.Prelude.{Result, Ok, Err}
use Rattle.std.proofs.lemmas.Nat.Bits.{bit_at-zero}
use Rattle.smv_ast.specs.declared.program.Program.{Program}
use Rattle.smv_ast.specs.declared.feature.Family.{Family}
use Rattle.smv_ast.specs.declared.model.FeatureModel.{FeatureModel}
use Rattle.smv_ast.specs.declared.model.Product.{Product}
use Rattle.smv_ast.specs.declared.fault.Fault.{Fault}
use Rattle.smv_ast.specs.declared.fault.Fault.TheVariants as fault
use Rattle.smv_meaning.specs.Faults.{ReportsFirst}
use Rattle.smv_names.specs.NamesFault.{names_fault}
use Rattle.feature_model.specs.FirstValid.{HasNoValid}
use Rattle.feature_model.specs.NamedProducts.{IsNamed}
use Rattle.feature_model.specs.Products.{has, HasSigns}
use Rattle.feature_model.specs.Validity.{IsValid}
use Rattle.feature_model.proofs.NamedLemmas.{named_once}
use Rattle.integrate_impose.specs.Answers.{Answers}
use Rattle.integrate.specs.ProductText.{text_of}
use Rattle.fsmv_top.specs.FeatureNames.{family_fault}
use Rattle.fsmv_top.specs.Words.{listed_names}
use Rattle.fsmv_top.specs.Weaving.{HasNoProduct, IsChosen, FailsChoice, text_after, IsCheckedText, HasNoText, IsTextOrFault}

-- ---- the choice of a product

-- each product has no features of the empty set, and lacks those
no_signs : (p : Product) → HasSigns 0 0 p
no_signs p = record { chosen = λ f h. absurd (none f h); left_out = λ f h. absurd (none f h) }
  where
    none : (f : ℕ) → has 0 f ≡ true → ⊥
    none f h = let zero : has 0 f ≡ false = ap (λ b. b == 1) (bit_at-zero f) in cc

pub no_valid_product : (model : FeatureModel) → HasNoValid model 0 0 → HasNoProduct model
no_valid_product model none p valid = none p valid (no_signs p)

module _ (model : FeatureModel) (word : List ℕ) (listed : List (List ℕ)) (is : listed ≡ listed_names word) where
  as_listed : (p : Product) → IsNamed model.names listed p → IsNamed model.names (listed_names word) p
  as_listed p = subst (λ (names : List (List ℕ)). IsNamed model.names names p) is

  -- the named product is valid
  pub chosen_valid : (p : Product) → IsNamed model.names listed p → IsValid model p → IsChosen model word p
  chosen_valid p named valid = record { named = as_listed p named; valid = valid }

  -- the named product is not valid
  pub chosen_invalid : (p : Product) → IsNamed model.names listed p → (IsValid model p → ⊥) → (q : Product) → IsChosen model word q → ⊥
  chosen_invalid p named invalid q chosen =
      invalid (subst (λ (x : Product). IsValid model x) (named_once model.names (listed_names word) q p chosen.named (as_listed p named)) chosen.valid)

  -- no product is named
  pub chosen_none : ((p : Product) → IsNamed model.names listed p → ⊥) → (q : Product) → IsChosen model word q → ⊥
  chosen_none none q chosen = none q (subst (λ (names : List (List ℕ)). IsNamed model.names names q) (sym is) chosen.named)

-- ---- the text

-- a fault of the names of the base comes before any of the features
pub base_fault : (A : Type 0) (family : Family) (p : Product) (f : Fault) → ReportsFirst {A = A} (names_fault family.base) (Err f) → IsCheckedText family p (Err f)
base_fault A family p fault.NoMemory h = tt
base_fault A family p _ h = ap (λ o. text_after o family p) h

-- without a fault of the names of the base the text is that of the product
pub base_sound : (family : Family) (p : Product) (result : Result Program Fault) → names_fault family.base ≡ None → Answers (text_of family p) result → IsCheckedText family p result
base_sound family p (Ok program) sound h = ap (λ o. text_after o family p) sound ∙ h
base_sound family p (Err fault.NoMemory) sound h = tt
base_sound family p (Err _) sound h = ap (λ o. text_after o family p) sound ∙ h

-- a fault of the names of the family comes first
pub family_refused : (A : Type 0) (family : Family) (word : List ℕ) (f : Fault) → ReportsFirst {A = A} (family_fault family) (Err f) → IsTextOrFault family word (Err f)
family_refused A family word fault.NoMemory h = tt
family_refused A family word _ h = HasNoText.names h

-- then a fault of the choice of the product
pub choice_refused : (family : Family) (word : List ℕ) (f : Fault) → family_fault family ≡ None → FailsChoice family.model word f → IsTextOrFault family word (Err f)
choice_refused family word fault.NoMemory sound h = tt
choice_refused family word _ sound h = HasNoText.choice sound h

-- then the text of the product, or its fault
pub text_answered : (family : Family) (word : List ℕ) (p : Product) (result : Result Program Fault) → family_fault family ≡ None → IsChosen family.model word p
    → IsCheckedText family p result → IsTextOrFault family word result
text_answered family word p (Ok program) sound chosen h = record { sound = sound; product = p; chosen = chosen; text = h }
text_answered family word p (Err fault.NoMemory) sound chosen h = tt
text_answered family word p (Err _) sound chosen h = HasNoText.text sound p chosen h
