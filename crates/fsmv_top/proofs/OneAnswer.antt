-- The files of a family are woven or refused, and not both.
use Rattle.std.proofs.Common.{◌≡◌, ℕ, ◌+◌, List, [], ◌∷◌, ◌++◌, Some, None, length, sym, ◌∙◌, ap, subst, arith, inl, inr}
use Rattle.std.specs.Prelude.{Ok, Err}
use Rattle.smv_ast.specs.declared.program.Program.{Program}
use Rattle.smv_ast.specs.declared.feature.Feature.{Feature}
use Rattle.smv_ast.specs.declared.feature.Family.{Family}
use Rattle.smv_ast.specs.declared.model.FeatureModel.{FeatureModel}
use Rattle.smv_ast.specs.declared.model.Product.{Product}
use Rattle.smv_ast.specs.declared.fault.Fault.{Fault}
use Rattle.smv_ast.specs.PrintedProgram.{printed_program}
use Rattle.smv_expr.specs.Lexicon.{Bytes}
use Rattle.smv_parse.specs.declared.program.Reading.{Reading}
use Rattle.smv_parse.specs.Answer.{Refuses}
use Rattle.smv_parse.proofs.ProgramAnswering as programs
use Rattle.feature_model.proofs.NamedLemmas.{named_once}
use Rattle.feature_parse.specs.declared.features.FeatureReading.{FeatureReading}
use Rattle.feature_parse.specs.Answer.{RefusesFeatures}
use Rattle.feature_parse.proofs.FeatureAnswering as features
use Rattle.fsmv_top.specs.Words.{Weave, listed_names}
use Rattle.fsmv_top.specs.Input.{Saying, Holds, IsRefusedFile, IsBase, IsModel, RefusesModel, AreFeatures, HoldFeatures, HoldsFamily, EndsReading, refused_with}
use Rattle.fsmv_top.specs.Weaving.{IsChosen, IsNoChoice, checked_text, IsText, HasNoText, IsRefused, Contents, given, NeverBoth, OneText}

-- ---- one file

-- a file whose bytes say one thing at most says one thing at most
same_said : {A : Type 0} (says : Saying A) (file : ℕ) (bytes : Bytes) (a b : A)
    → ((x y : A) → says file bytes x → says file bytes y → x ≡ y)
    → Holds says file (Some bytes) a → Holds says file (Some bytes) b → a ≡ b
same_said says file bytes a b once x y =
    once a b (subst (λ (t : Bytes). says file t a) (sym x.held) x.said) (subst (λ (t : Bytes). says file t b) (sym y.held) y.said)

-- a file that says something is not refused, where its bytes are not
not_refused : {A : Type 0} (says : Saying A) (refuses : Saying Fault) (file : ℕ) (bytes : Bytes) (a : A) (f : Fault)
    → (says file bytes a → refuses file bytes f → ⊥)
    → Holds says file (Some bytes) a → IsRefusedFile refuses file (Some bytes) f → ⊥
not_refused says refuses file bytes a f never x (inl y) = let same : length bytes ≡ length x.bytes = ap length x.held in omega (arith, same, x.within, y.longer)
not_refused says refuses file bytes a f never x (inr y) =
    never (subst (λ (t : Bytes). says file t a) (sym x.held) x.said) (subst (λ (t : Bytes). refuses file t f) (sym y.held) y.said)

-- ---- what bytes say

one_base : (file : ℕ) (bytes : Bytes) (a b : Program) → IsBase file bytes a → IsBase file bytes b → a ≡ b
one_base file bytes a b x y =
    ap (λ (r : Reading). r.program) (programs.reads_once file bytes (record { program = a; skipped = x.0 }) (record { program = b; skipped = y.0 }) x.1 y.1)

one_model : (file : ℕ) (bytes : Bytes) (a b : FeatureModel) → IsModel file bytes a → IsModel file bytes b → a ≡ b
one_model file bytes a b x y = let both : Ok a ≡ Ok b = x.is ∙ sym y.is in cc

one_reading : (file : ℕ) (bytes : Bytes) (a b : List Feature) → AreFeatures file bytes a → AreFeatures file bytes b → a ≡ b
one_reading file bytes a b x y =
    ap (λ (r : FeatureReading). r.features) (features.reads_once file bytes (record { features = a; skipped = x.0 }) (record { features = b; skipped = y.0 }) x.1 y.1)

base_or_refused : (file : ℕ) (bytes : Bytes) (a : Program) (f : Fault) → IsBase file bytes a → Refuses file bytes f → ⊥
base_or_refused file bytes a f x y = programs.reads_or_refuses file bytes (record { program = a; skipped = x.0 }) f x.1 y

model_or_refused : (file : ℕ) (bytes : Bytes) (a : FeatureModel) (f : Fault) → IsModel file bytes a → RefusesModel file bytes f → ⊥
model_or_refused file bytes a f x y = let both : Ok a ≡ Err f = x.is ∙ sym y.is in cc

features_or_refused : (file : ℕ) (bytes : Bytes) (a : List Feature) (f : Fault) → AreFeatures file bytes a → RefusesFeatures file bytes f → ⊥
features_or_refused file bytes a f x y = features.reads_or_refuses file bytes (record { features = a; skipped = x.0 }) f x.1 y

-- ---- the family

abbrev family_of : Program → FeatureModel → List Feature → Family
family_of base model features = record { base = base; model = model; features = features }

module _ (contents : Contents) where
  one_list : (file : ℕ) (names : List (List ℕ)) (a b : List Feature) → HoldFeatures (given contents) file names a → HoldFeatures (given contents) file names b → a ≡ b
  one_list file [] a b x y = x ∙ sym y
  one_list file (name ∷ more) a b (first, others, holds, rest, joined) (first', others', holds', rest', joined') =
      let heads : first ≡ first' = same_said AreFeatures file (contents name) first first' (one_reading file (contents name)) holds holds' in
      let tails : others ≡ others' = one_list (file + 1) more others others' rest rest' in
      joined ∙ ap (λ (xs : List Feature). xs ++ others) heads ∙ ap (λ (xs : List Feature). first' ++ xs) tails ∙ sym joined'

  -- the file that stands behind the given number of files is read
  read_at : (file : ℕ) (before : List (List ℕ)) (name : List ℕ) (after : List (List ℕ)) (a : List Feature)
      → HoldFeatures (given contents) file (before ++ name ∷ after) a → (one : List Feature) × Holds AreFeatures (file + length before) (Some (contents name)) one
  read_at file [] name after a (first, others, holds, rest, joined) = (first, subst (λ (n : ℕ). Holds AreFeatures n (Some (contents name)) first) (omega arith) holds)
  read_at file (b ∷ before) name after a (first, others, holds, rest, joined) =
      let one = read_at (file + 1) before name after others rest in
      (one.0, subst (λ (n : ℕ). Holds AreFeatures n (Some (contents name)) one.0) (omega arith) one.1)

  one_family : (words : Weave) (a b : Family) → HoldsFamily (given contents) words a → HoldsFamily (given contents) words b → a ≡ b
  one_family words a b x y =
      let bases : a.base ≡ b.base = same_said IsBase 0 (contents words.base) a.base b.base (one_base 0 (contents words.base)) x.base y.base in
      let models : a.model ≡ b.model = same_said IsModel 1 (contents words.model) a.model b.model (one_model 1 (contents words.model)) x.model y.model in
      let lists : a.features ≡ b.features = one_list 2 words.features a.features b.features x.features y.features in
      ap (λ (p : Program). family_of p a.model a.features) bases ∙ ap (λ (m : FeatureModel). family_of b.base m a.features) models ∙ ap (family_of b.base b.model) lists

  no_end : (words : Weave) (a : Family) (f : Fault) → HoldsFamily (given contents) words a → EndsReading (given contents) words (refused_with (given contents) f) → ⊥
  no_end words a f x (EndsReading.at_base y) = not_refused IsBase Refuses 0 (contents words.base) a.base f (base_or_refused 0 (contents words.base) a.base f) x.base y
  no_end words a f x (EndsReading.at_model base holds y) = not_refused IsModel RefusesModel 1 (contents words.model) a.model f (model_or_refused 1 (contents words.model) a.model f) x.model y
  no_end words a f x (EndsReading.at_features base holds model holds' y) =
      let held = read_at 2 y.before y.name y.after a.features (subst (λ (names : List (List ℕ)). HoldFeatures (given contents) 2 names a.features) y.split x.features) in
      not_refused AreFeatures RefusesFeatures (2 + length y.before) (contents y.name) held.0 f (features_or_refused (2 + length y.before) (contents y.name) held.0 f) held.1 y.ends

-- ---- its text

one_product : (model : FeatureModel) (word : List ℕ) (p q : Product) → IsChosen model word p → IsChosen model word q → p ≡ q
one_product model word p q x y = named_once model.names (listed_names word) p q x.named y.named

chosen_or_not : (model : FeatureModel) (word : List ℕ) (p : Product) (f : Fault) → IsChosen model word p → IsNoChoice model word f → ⊥
chosen_or_not model word p f x (IsNoChoice.no_product none is) = none p x.valid
chosen_or_not model word p f x (IsNoChoice.not_valid some none is) = none p x

text_or_not : (family : Family) (word : List ℕ) (program : Program) (f : Fault) → IsText family word program → HasNoText family word f → ⊥
text_or_not family word program f x (HasNoText.names y) = let both : None ≡ Some f = sym x.sound ∙ y in cc
text_or_not family word program f x (HasNoText.choice sound y) = chosen_or_not family.model word x.product f x.chosen y
text_or_not family word program f x (HasNoText.text sound p chosen y) =
    let same : x.product ≡ p = one_product family.model word x.product p x.chosen chosen in
    let both : Ok program ≡ Err f = sym x.text ∙ ap (checked_text family) same ∙ y in cc

one_program : (family : Family) (word : List ℕ) (a b : Program) → IsText family word a → IsText family word b → a ≡ b
one_program family word a b x y =
    let same : x.product ≡ y.product = one_product family.model word x.product y.product x.chosen y.chosen in
    let both : Ok a ≡ Ok b = sym x.text ∙ ap (checked_text family) same ∙ y.text in cc

-- ---- the words

pub never_both : NeverBoth
never_both contents words text names f w (IsRefused.file none y) = no_end contents words w.family f w.holds y
never_both contents words text names f w (IsRefused.family family holds is y) =
    let same : w.family ≡ family = one_family contents words w.family family w.holds holds in
    text_or_not family words.product w.program f (subst (λ (a : Family). IsText a words.product w.program) same w.is) y

pub one_text : OneText
one_text contents words text other w v =
    let same : w.family ≡ v.family = one_family contents words w.family v.family w.holds v.holds in
    let programs : w.program ≡ v.program = one_program v.family words.product w.program v.program (subst (λ (a : Family). IsText a words.product w.program) same w.is) v.is in
    w.printed ∙ ap printed_program programs ∙ sym v.printed
