-- The index of the first item that passes a test, and the list with that item changed.
use Rattle.std.proofs.Common.{◌≡◌, ◌<◌, ℕ, suc, Bool, true, false, ◌||◌, cond, List, [], ◌∷◌, ◌++◌, length, Option, Some, None, refl, sym, ◌∙◌, ap, arith, append_assoc}
use Rattle.std.specs.Option.{option_map, is_some}
use Rattle.std.specs.List.{list_any}
use Rattle.integrate_impose.specs.Lists.{first_index, change_first}

not_zero : (o : Option ℕ) → option_map suc o ≡ Some 0 → ⊥
not_zero None e = cc
not_zero (Some n) e = let h : suc n ≡ 0 = cc in omega arith

one_less : (o : Option ℕ) (n : ℕ) → option_map suc o ≡ Some (suc n) → o ≡ Some n
one_less None n e = cc
one_less (Some m) n e = let h : suc m ≡ suc n = cc in ap (λ k. Some k) (omega arith)

stays_none : (o : Option ℕ) → option_map suc o ≡ None → o ≡ None
stays_none None e = refl
stays_none (Some n) e = cc

is_some_more : (o : Option ℕ) → is_some (option_map suc o) ≡ is_some o
is_some_more None = refl
is_some_more (Some n) = refl

module _ {A : Type 0} (test : A → Bool) where
  any_step : (v : Bool) (o : Option ℕ) (b : Bool) → is_some o ≡ b → is_some (cond v (Some 0) (option_map suc o)) ≡ (v || b)
  any_step true o b e = refl
  any_step false o b e = is_some_more o ∙ e

  -- some item passes where there is a first one
  pub is_some_first_index : (items : List A) → is_some (first_index test items) ≡ list_any test items
  is_some_first_index [] = refl
  is_some_first_index (item ∷ more) = any_step (test item) (first_index test more) (list_any test more) (is_some_first_index more)

  below_step : (v : Bool) (o : Option ℕ) (m n : ℕ) → ((k : ℕ) → o ≡ Some k → k < m) → cond v (Some 0) (option_map suc o) ≡ Some n → n < suc m
  below_step true o m n below e = let h : 0 ≡ n = cc in omega arith
  below_step false None m n below e = cc
  below_step false (Some k) m n below e = let h : suc k ≡ n = cc in let b = below k refl in omega arith

  pub first_index_below : (items : List A) (n : ℕ) → first_index test items ≡ Some n → n < length items
  first_index_below [] n e = cc
  first_index_below (item ∷ more) n e = below_step (test item) (first_index test more) (length more) n (first_index_below more) e

module _ {A : Type 0} (test : A → Bool) (change : A → A) where
  none_step : (v : Bool) (item : A) (more : List A) → (first_index test more ≡ None → change_first test change more ≡ more)
      → cond v (Some 0) (option_map suc (first_index test more)) ≡ None → cond v (change item ∷ more) (item ∷ change_first test change more) ≡ item ∷ more
  none_step true item more tail e = cc
  none_step false item more tail e = ap (λ xs. item ∷ xs) (tail (stays_none _ e))

  -- where no item passes, none is changed
  pub change_first_none : (items : List A) → first_index test items ≡ None → change_first test change items ≡ items
  change_first_none [] e = refl
  change_first_none (item ∷ more) e = none_step (test item) item more (change_first_none more) e

  here_step : (v : Bool) (item : A) (suffix : List A) → cond v (Some 0) (option_map suc (first_index test suffix)) ≡ Some 0
      → cond v (change item ∷ suffix) (item ∷ change_first test change suffix) ≡ change item ∷ suffix
  here_step true item suffix e = refl
  here_step false item suffix e = absurd (not_zero (first_index test suffix) e)

  later_step : (v : Bool) (x : A) (more changed : List A) (n : ℕ) → (first_index test more ≡ Some n → change_first test change more ≡ changed)
      → cond v (Some 0) (option_map suc (first_index test more)) ≡ Some (suc n) → cond v (change x ∷ more) (x ∷ change_first test change more) ≡ x ∷ changed
  later_step true x more changed n tail e = let h : 0 ≡ suc n = cc in absurd (omega arith)
  later_step false x more changed n tail e = ap (λ xs. x ∷ xs) (tail (one_less _ n e))

  -- the first item that passes is changed, and no other
  pub change_first_found : (prefix : List A) (item : A) (suffix : List A) → first_index test (prefix ++ item ∷ suffix) ≡ Some (length prefix)
      → change_first test change (prefix ++ item ∷ suffix) ≡ prefix ++ change item ∷ suffix
  change_first_found [] item suffix e = here_step (test item) item suffix e
  change_first_found (x ∷ prefix) item suffix e = later_step (test x) x (prefix ++ item ∷ suffix) (prefix ++ change item ∷ suffix) (length prefix) (change_first_found prefix item suffix) e

  -- the list split at its first item that passes, and joined again with that item changed
  pub change_first_taken : (items prefix suffix : List A) (item : A) (index : ℕ) → items ≡ prefix ++ item ∷ suffix → length prefix ≡ index → first_index test items ≡ Some index
      → (prefix ++ change item ∷ []) ++ suffix ≡ change_first test change items
  change_first_taken items prefix suffix item index split at first =
      append_assoc prefix (change item ∷ []) suffix
      ∙ sym (change_first_found prefix item suffix (ap (first_index test) (sym split) ∙ first ∙ ap (λ n. Some n) (sym at)))
      ∙ ap (change_first test change) (sym split)
