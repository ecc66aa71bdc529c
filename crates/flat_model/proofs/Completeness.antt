-- Stuck states are no more than the states that there are, so at that depth Step holds.
use Rattle.std.proofs.Common.{◌≡◌, ℕ, ◌+◌, ◌≤◌, true, List, [], ◌∷◌, length, sym, ◌∙◌, arith, ◌⊎◌, inl, inr}
use Rattle.std.specs.Prelude.{◌&&◌, ◌≢◌}
use Rattle.std.specs.List.{AllByRecursion}
use Rattle.std.proofs.lemmas.Bool.{and_parts}
use Rattle.flat_model.specs.Machines.{Machine, is_path, AreDistinct, IsStuck}

-- x is one of ys
abbrev pub IsAmong : {S : Type 0} → S → List S → Type 0
IsAmong x [] = ⊥
IsAmong x (y ∷ ys) = (x ≡ y) ⊎ IsAmong x ys

-- ys without one that is x
without : {S : Type 0} (x : S) (ys : List S) → IsAmong x ys → (zs : List S) × (length ys ≡ length zs + 1) × ((u : S) → x ≢ u → IsAmong u ys → IsAmong u zs)
without x [] a = absurd a
without x (y ∷ ys) (inl e) = (ys, omega arith, λ u differ a. elim a [ inl f ↦ absurd (differ (e ∙ sym f)) | inr h ↦ h ])
without x (y ∷ ys) (inr h) =
    let fewer : (zs : List _) × (length ys ≡ length zs + 1) × ((u : _) → x ≢ u → IsAmong u ys → IsAmong u zs) = without x ys h in
    (y ∷ fewer.0, omega arith, λ u differ a. elim a [ inl f ↦ inl f | inr g ↦ inr (fewer.2 u differ g) ])

both_all : {S : Type 0} (P Q R : S → Type 0) (xs : List S) → ((u : S) → P u → Q u → R u) → AllByRecursion P xs → AllByRecursion Q xs → AllByRecursion R xs
both_all P Q R [] f a b = tt
both_all P Q R (x ∷ xs) f a b = (f x a.0 b.0, both_all P Q R xs f a.1 b.1)

-- different elements of a list are no more than its elements
no_more_than : {S : Type 0} (xs ys : List S) → AreDistinct xs → AllByRecursion (λ u. IsAmong u ys) xs → length xs ≤ length ys
no_more_than [] ys a m = omega arith
no_more_than (x ∷ xs) ys a m =
    let fewer : (zs : List _) × (length ys ≡ length zs + 1) × ((u : _) → x ≢ u → IsAmong u ys → IsAmong u zs) = without x ys m.0 in
    let others : length xs ≤ length fewer.0 = no_more_than xs fewer.0 a.1 (both_all (λ u. x ≢ u) (λ u. IsAmong u ys) (λ u. IsAmong u fewer.0) xs (λ u differ h. fewer.2 u differ h) a.0 m.1) in
    omega arith

module _ {S : Type 0} (m : Machine S) (p : ℕ) where
  all_inside : (states : List S) → ((s : S) → m.inside p s ≡ true → IsAmong s states) → (s : S) (ts : List S) → is_path m p s ts ≡ true → AllByRecursion (λ u. IsAmong u states) (s ∷ ts)
  all_inside states all s [] h = (all s h, tt)
  all_inside states all s (t ∷ ts) h =
      let parts = and_parts (m.inside p s) (m.step p s t && is_path m p t ts) h in
      (all s parts.0, all_inside states all t ts (and_parts (m.step p s t) (is_path m p t ts) parts.1).1)

  -- where the list has each state that is inside, no more states than it has are stuck
  pub stuck_short : (states : List S) (s : S) (ts : List S) → ((t : S) → m.inside p t ≡ true → IsAmong t states) → IsStuck m p s ts → length (s ∷ ts) ≤ length states
  stuck_short states s ts all stuck = no_more_than (s ∷ ts) states stuck.distinct (all_inside states all s ts stuck.path)
