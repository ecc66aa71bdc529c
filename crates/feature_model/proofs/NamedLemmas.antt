-- Products that are given by the names of their features.
use Rattle.std.proofs.Common.{◌≡◌, ◌≢◌, ◌<◌, ◌+◌, ℕ, Bool, true, false, List, ◌∷◌, length, drop, get_or, Some, None, sym, ◌∙◌, ap, inl, inr}
use Rattle.std.specs.Prelude.{if◌then◌else◌, ◌||◌}
use Rattle.std.proofs.lemmas.List.{drop_more}
use denote.Ref.{Bor}
use Rattle.std.proofs.lemmas.Bool.Decides.{eqb_tells}
use Rattle.std.proofs.lemmas.Nat.Bits.{same_from_bits}
use mathlib.Core.Path.{fun_ext}
use Rattle.smv_ast.specs.declared.model.Product.{Product}
use Rattle.feature_model.specs.Constraints.{Name, feature_of}
use Rattle.feature_model.specs.Products.{has}
use Rattle.feature_model.specs.NamedProducts.{IsNamed, names_at, no_feature, and_feature, choose, chosen_by}
use Rattle.feature_model.proofs.SetLemmas.{same_bit}

-- a set with one more feature
pub with_more : (old new f : ℕ) → has new f ≡ true → ((g : ℕ) → g ≢ f → has new g ≡ has old g) → has new ≡ and_feature (has old) f
with_more old new f there others = fun_ext (λ g. elim (eqb_tells g f) [
  | inl same ↦ ap (has new) same.1 ∙ there ∙ sym (ap (λ b. b || has old g) same.0)
  | inr other ↦ others g other.1 ∙ sym (ap (λ b. b || has old g) other.0)
])

same_choice : (chosen other : ℕ → Bool) → Some chosen ≡ Some other → chosen ≡ other
same_choice chosen other e = cc

abbrev with_bits : ℕ → Product
with_bits bits = record { bits = bits }

-- a list names one product at most
pub named_once : (names listed : List Name) (p q : Product) → IsNamed names listed p → IsNamed names listed q → p ≡ q
named_once names listed p q h k =
    let same : has p.bits ≡ has q.bits = same_choice (has p.bits) (has q.bits) (sym h ∙ k) in
    ap with_bits (same_from_bits p.bits q.bits (λ f. same_bit p.bits q.bits f (ap (λ (chosen : ℕ → Bool). chosen f) same)))

-- ---- name by name

next_name : (listed : List (Bor Name)) (i : ℕ) (d : Bor Name) → i < length listed → names_at (drop i listed) ≡ (get_or listed i d).now ∷ names_at (drop (i + 1) listed)
next_name listed i d lt = ap names_at (drop_more listed i d lt)

module _ (names : List Name) (listed : List (Bor Name)) (i : ℕ) (d : Bor Name) (lt : i < length listed) (chosen : ℕ → Bool) where
  here : chosen_by names (names_at (drop i listed)) chosen ≡ choose chosen (feature_of names (get_or listed i d).now) (chosen_by names (names_at (drop (i + 1) listed)))
  here = ap (λ (ns : List Name). chosen_by names ns chosen) (next_name listed i d lt)

  -- a name that is no feature's
  pub name_unknown : feature_of names (get_or listed i d).now ≡ None → chosen_by names (names_at (drop i listed)) chosen ≡ None
  name_unknown h = here ∙ ap (λ o. choose chosen o (chosen_by names (names_at (drop (i + 1) listed)))) h

  -- a feature that is chosen already
  pub name_again : (f : ℕ) → feature_of names (get_or listed i d).now ≡ Some f → chosen f ≡ true → chosen_by names (names_at (drop i listed)) chosen ≡ None
  name_again f h again = here ∙ ap (λ o. choose chosen o (chosen_by names (names_at (drop (i + 1) listed)))) h
      ∙ ap (λ b. if b then None else chosen_by names (names_at (drop (i + 1) listed)) (and_feature chosen f)) again

  -- a feature that is chosen now
  pub name_new : (f : ℕ) → feature_of names (get_or listed i d).now ≡ Some f → chosen f ≡ false
      → chosen_by names (names_at (drop i listed)) chosen ≡ chosen_by names (names_at (drop (i + 1) listed)) (and_feature chosen f)
  name_new f h new = here ∙ ap (λ o. choose chosen o (chosen_by names (names_at (drop (i + 1) listed)))) h
      ∙ ap (λ b. if b then None else chosen_by names (names_at (drop (i + 1) listed)) (and_feature chosen f)) new

-- no product is named where there is no choice
pub none_named : (names listed : List Name) → chosen_by names listed no_feature ≡ None → (p : Product) → IsNamed names listed p → ⊥
none_named names listed none p named = let both : None ≡ Some (has p.bits) = sym none ∙ named in cc
