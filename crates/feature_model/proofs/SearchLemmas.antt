-- What is known of valid products where one more feature is decided.
use Rattle.std.proofs.Common.{◌≡◌, ◌≢◌, ℕ, ◌+◌, ◌-◌, ◌^◌, ◌<◌, ◌≤◌, Bool, true, false, not, ◌||◌, ◌⊎◌, inl, inr, refl, sym, ap, ◌∙◌, subst, arith, length, pow_mono}
use Rattle.std.specs.Prelude.{bit_or, MatchOption, Result, Ok, Err}
use Rattle.std.specs.Result.{result_ok}
use Rattle.std.specs.Int.{bit_at}
use Rattle.std.proofs.lemmas.Nat.Bits.{same_from_bits_below}
use Rattle.std.proofs.lemmas.Bool.{cases_eq}
use Rattle.smv_ast.specs.declared.model.FeatureModel.{FeatureModel}
use Rattle.smv_ast.specs.declared.model.Product.{Product}
use Rattle.feature_model.specs.declared.partial_product.PartialProduct.{PartialProduct}
use Rattle.feature_model.specs.Products.{has, Has}
use Rattle.feature_model.specs.Validity.{IsValid}
use Rattle.feature_model.specs.PartialProducts.{is_decided, IsConsistent, AgreesAt, AgreesOn, Agrees, DecidesOne, IsFirstOpen}
use Rattle.feature_model.specs.Findings.{Conflicts}
use Rattle.feature_model.specs.FirstValid.{IsFirstWithin, Excludes, IsBefore, IsFound, HasNoValid, IsFirstValid}
use Rattle.feature_model.proofs.SetLemmas.{has_either, has_all, same_bit, lacks_beyond}
use Rattle.feature_model.proofs.LookaheadLemmas.{or_true}

-- how much two sets of features can still grow, at least
abbrev pub room : ℕ → ℕ → ℕ
room chosen left_out = 2 ^ 65 - (chosen + left_out)

-- ---- truth values

pub either_true : (a b : Bool) → (a || b) ≡ false → (a ≡ false) × (b ≡ false)
either_true true b h = let bad : true ≡ false = h in cc
either_true false b h = (refl, h)

pub one_of : (a b : Bool) → (a || b) ≡ true → (a ≡ true) ⊎ (b ≡ true)
one_of true b h = inl refl
one_of false b h = inr h

pub not_true : (a : Bool) → not a ≡ true → a ≡ false
not_true true h = sym h
not_true false h = refl

pub either_value : (a s : Bool) → (a ≡ s) ⊎ (a ≡ not s)
either_value true true = inl refl
either_value true false = inr refl
either_value false true = inr refl
either_value false false = inl refl

-- ---- one feature more is decided

-- no product disagrees at a feature that is not decided
pub agrees_undecided : (partial : PartialProduct) (p : Product) (f : ℕ) → is_decided partial f ≡ false → AgreesAt partial p f
agrees_undecided partial p f undecided =
    let none : (has partial.chosen f ≡ false) × (has partial.left_out f ≡ false) = either_true _ _ undecided in
    record { chosen = λ h. let no : has partial.chosen f ≡ false = none.0 in cc; left_out = λ h. let no : has partial.left_out f ≡ false = none.1 in cc }

module _ (partial new : PartialProduct) (feature : ℕ) (chosen : Bool) (decides : DecidesOne partial feature chosen new) where
  -- at the feature itself
  pub agrees_there : (p : Product) → has p.bits feature ≡ chosen → AgreesAt new p feature
  agrees_there p there = record {
    chosen = λ e. there ∙ (sym decides.now_chosen ∙ e);
    left_out = λ e. there ∙ not_true chosen (sym decides.now_left_out ∙ e);
  }

  -- at the others nothing changes
  pub agrees_new : (p : Product) (f : ℕ) → f ≢ feature → AgreesAt partial p f → AgreesAt new p f
  agrees_new p f other h = record {
    chosen = λ e. h.chosen (sym (decides.kept_chosen f other) ∙ e);
    left_out = λ e. h.left_out (sym (decides.kept_left_out f other) ∙ e);
  }

  pub agrees_old : (p : Product) (f : ℕ) → f ≢ feature → AgreesAt new p f → AgreesAt partial p f
  agrees_old p f other h = record {
    chosen = λ e. h.chosen (decides.kept_chosen f other ∙ e);
    left_out = λ e. h.left_out (decides.kept_left_out f other ∙ e);
  }

  -- what agrees on a set before agrees on it now, if it has or lacks the feature as said
  pub agrees_on_new : (p : Product) (features : ℕ) → has p.bits feature ≡ chosen → AgreesOn partial features p → AgreesOn new features p
  agrees_on_new p features there agrees f within =
      elim (cases_eq f feature) [ inl e ↦ subst (AgreesAt new p) (sym e) (agrees_there p there) | inr other ↦ agrees_new p f other (agrees f within) ]

  pub agrees_all_new : (p : Product) → has p.bits feature ≡ chosen → Agrees partial p → Agrees new p
  agrees_all_new p there agrees f =
      elim (cases_eq f feature) [ inl e ↦ subst (AgreesAt new p) (sym e) (agrees_there p there) | inr other ↦ agrees_new p f other (agrees f) ]

  -- what agrees now agreed before
  pub agrees_all_old : (p : Product) → is_decided partial feature ≡ false → Agrees new p → Agrees partial p
  agrees_all_old p undecided agrees f =
      elim (cases_eq f feature) [ inl e ↦ subst (AgreesAt partial p) (sym e) (agrees_undecided partial p feature undecided) | inr other ↦ agrees_old p f other (agrees f) ]

  -- a conflict now excludes the sign that was decided
  pub excludes : (model : FeatureModel) (features : ℕ) → Conflicts new (IsValid model) features → Excludes model partial feature chosen features
  excludes model features conflict p valid there agrees = conflict p valid (agrees_on_new p features there agrees)

  -- a conflict without the feature was one before
  pub conflict_before : (model : FeatureModel) (features : ℕ) → has features feature ≡ false → Conflicts new (IsValid model) features → Conflicts partial (IsValid model) features
  conflict_before model features absent conflict p valid agrees =
      conflict p valid (λ f within. agrees_new p f (λ e. let here : has features feature ≡ true = subst (λ x. has features x ≡ true) e within in cc) (agrees f within))

  -- the first valid product now is the first one before, where the other sign is excluded
  pub first_before : (model : FeatureModel) (features : ℕ) (p : Product) → is_decided partial feature ≡ false → Excludes model partial feature (not chosen) features → IsFirstWithin model new p → IsFirstWithin model partial p
  first_before model features p undecided excluded h = record {
    valid = h.valid;
    agrees = agrees_all_old p undecided h.agrees;
    first = λ other valid agrees. elim (either_value (has other.bits feature) chosen) [
      | inl there ↦ h.first other valid (agrees_all_new other there agrees)
      | inr there ↦ absurd (excluded other valid there (λ f within. agrees f))
    ];
  }

-- two products that agree with a partial product are the same at each feature that is decided
pub same_decided : (partial : PartialProduct) (p q : Product) (f : ℕ) → is_decided partial f ≡ true → AgreesAt partial p f → AgreesAt partial q f → has p.bits f ≡ has q.bits f
same_decided partial p q f decided h k = elim (one_of _ _ decided) [ inl e ↦ h.chosen e ∙ sym (k.chosen e) | inr e ↦ h.left_out e ∙ sym (k.left_out e) ]

-- with the first open feature left out, the first valid product is the first one with that feature open
pub first_left_out : (model : FeatureModel) (partial new : PartialProduct) (feature : ℕ) (p : Product) → DecidesOne partial feature false new → IsFirstOpen partial feature → IsFirstWithin model new p → IsFirstWithin model partial p
first_left_out model partial new feature p decides opened h = record {
  valid = h.valid;
  agrees = before;
  first = λ other valid agrees. elim (either_value (has other.bits feature) false) [
    | inl there ↦ h.first other valid (agrees_all_new partial new feature false decides other there agrees)
    | inr there ↦ inr (record {
      feature = feature;
      same = λ f below. same_decided partial p other f (opened.below f below) (before f) (agrees f);
      absent = (h.agrees feature).left_out decides.now_left_out;
      present = there;
    })
  ];
} where
  before : Agrees partial p
  before = agrees_all_old partial new feature false decides p opened.undecided h.agrees

-- with both signs of the feature excluded, the other features of both conflicts are one
pub conflict_of_both : (model : FeatureModel) (partial : PartialProduct) (feature : ℕ) (chosen : Bool) (one two rest : ℕ) → is_decided partial feature ≡ false →
    ((f : ℕ) → f ≢ feature → has rest f ≡ has (bit_or one two) f) →
    Excludes model partial feature (not chosen) one → Excludes model partial feature chosen two → Conflicts partial (IsValid model) rest
conflict_of_both model partial feature chosen one two rest undecided others h k p valid agrees =
    elim (either_value (has p.bits feature) chosen) [
      | inl there ↦ k p valid there (λ f within. agrees_at f (has_either one two f ∙ ap (λ x. has one f || x) within ∙ or_true (has one f)))
      | inr there ↦ h p valid there (λ f within. agrees_at f (has_either one two f ∙ ap (λ x. x || has two f) within))
    ] where
      agrees_at : (f : ℕ) → has (bit_or one two) f ≡ true → AgreesAt partial p f
      agrees_at f within = elim (cases_eq f feature) [
        | inl e ↦ subst (AgreesAt partial p) (sym e) (agrees_undecided partial p feature undecided)
        | inr other ↦ agrees f (others f other ∙ within)
      ]

-- ---- every feature is decided

module _ (model : FeatureModel) (partial : PartialProduct) (bits : ℕ) (is : bits ≡ partial.chosen) (few : length model.names ≤ 64) (fits : bits < 2 ^ 64) (consistent : IsConsistent partial) (decided : (f : ℕ) → f < 64 → is_decided partial f ≡ true) where
  -- the product of the features that are chosen
  abbrev the_product : Product
  the_product = record { bits = bits }

  the_product_agrees : Agrees partial the_product
  the_product_agrees f = record { chosen = λ h. ap (λ b. has b f) is ∙ h; left_out = λ h. ap (λ b. has b f) is ∙ not_chosen h (has partial.chosen f) refl } where
    not_chosen : has partial.left_out f ≡ true → (b : Bool) → b ≡ has partial.chosen f → has partial.chosen f ≡ false
    not_chosen h true e = let none : has partial.left_out f ≡ false = consistent f (sym e) in cc
    not_chosen h false e = sym e

  -- a valid product that agrees is that one
  only_product : (p : Product) → IsValid model p → ((f : ℕ) → f < 64 → AgreesAt partial p f) → the_product ≡ p
  only_product p valid agrees = ap (λ (b : ℕ). let made : Product = record { bits = b } in made) (same_from_bits_below 64 bits p.bits fits (omega (arith, valid.within, pow_mono few)) same) where
    same : (f : ℕ) → f < 64 → bit_at bits f ≡ bit_at p.bits f
    same f small = same_bit bits p.bits f (same_decided partial the_product p f (decided f small) (the_product_agrees f) (agrees f small))

  pub first_decided : IsValid model the_product → IsFirstWithin model partial the_product
  first_decided valid = record {
    valid = valid;
    agrees = the_product_agrees;
    first = λ other also agrees. inl (only_product other also (λ f _. agrees f));
  }

  pub conflict_decided : (IsValid model the_product → ⊥) → Conflicts partial (IsValid model) 18446744073709551615
  conflict_decided invalid p valid agrees = invalid (subst (IsValid model) (sym (only_product p valid (λ f small. agrees f (has_all f small)))) valid)

-- ---- before the search

-- the root and the wanted features are chosen, the unwanted ones and those beyond the last are left out
pub before : (model : FeatureModel) (wanted unwanted chosen beyond : ℕ) → has chosen 0 ≡ true → ((f : ℕ) → f ≢ 0 → has chosen f ≡ has wanted f) → ((f : ℕ) → has beyond f ≡ true → length model.names ≤ f) →
    IsBefore model wanted unwanted (record { chosen = chosen; left_out = bit_or unwanted beyond })
before model wanted unwanted chosen beyond root others upper = record {
  agrees = λ p valid signs f. record {
    chosen = λ h. elim (cases_eq f 0) [ inl e ↦ subst (Has p) (sym e) valid.root | inr other ↦ signs.chosen f (sym (others f other) ∙ h) ];
    left_out = λ h. elim (one_of _ _ (sym (has_either unwanted beyond f) ∙ h)) [ inl there ↦ signs.left_out f there | inr there ↦ lacks_beyond p.bits (length model.names) f valid.within (upper f there) ];
  };
  signs = λ p agrees. record {
    chosen = λ f h. (agrees f).chosen (elim (cases_eq f 0) [ inl e ↦ subst (λ x. has chosen x ≡ true) (sym e) root | inr other ↦ others f other ∙ h ]);
    left_out = λ f h. (agrees f).left_out (has_either unwanted beyond f ∙ ap (λ x. x || has beyond f) h);
  };
}

-- no product agrees with a partial product that contradicts itself
pub none_agrees : (model : FeatureModel) (wanted unwanted : ℕ) (partial : PartialProduct) (f : ℕ) → IsBefore model wanted unwanted partial → has partial.chosen f ≡ true → has partial.left_out f ≡ true → HasNoValid model wanted unwanted
none_agrees model wanted unwanted partial f h chosen left_out p valid signs =
    let there : has p.bits f ≡ true = (h.agrees p valid signs f).chosen chosen in
    let absent : has p.bits f ≡ false = (h.agrees p valid signs f).left_out left_out in
    cc

-- what is found within it is the answer
pub found : (model : FeatureModel) (wanted unwanted : ℕ) (partial : PartialProduct) (r : Result Product ℕ) → IsBefore model wanted unwanted partial → IsFound model partial r → MatchOption (result_ok r) (HasNoValid model wanted unwanted) (IsFirstValid model wanted unwanted)
found model wanted unwanted partial (Err features) h conflict = λ p valid signs. conflict p valid (λ f within. h.agrees p valid signs f)
found model wanted unwanted partial (Ok p) h first = record {
  valid = first.valid;
  signs = h.signs p first.agrees;
  first = λ other valid signs. first.first other valid (h.agrees other valid signs);
}
