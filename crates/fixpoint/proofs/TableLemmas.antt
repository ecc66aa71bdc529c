-- A table in which each entry is known after some rounds, and to which the step adds nothing, is the least fixed point.
use Rattle.std.proofs.Common.{◌≡◌, ℕ, zero, suc, ◌+◌, ◌-◌, ◌^◌, ◌<◌, ◌≤◌, List, [], ◌∷◌, length, Option, Some, None, refl, sym, ap, ◌∙◌, subst, arith, get_or, ◌⊎◌, inl, inr}
use Rattle.std.specs.Prelude.{IsSome, slice_set}
use Rattle.std.specs.Option.{option_flatten}
use Rattle.std.proofs.lemmas.List.Sums.{sum_by-set, sum_by-cons}
use Rattle.std.proofs.lemmas.Option.{slice_get-get_or}
use Rattle.fixpoint.specs.Fixpoints.{entry, one, filled, Under, IsMonotone, most, known, fixpoint, IsSoundTable, IsClosed}
use Rattle.fixpoint.proofs.Laws.{below_or, agree, known_next, known_up, fixpoint_least}

module _ {A : Type 0} where
  -- ---- the table
  entry-get : (table : List (Option A)) (k : ℕ) → k < length table → entry table k ≡ get_or table k None
  entry-get table k h = ap (λ (o : Option (Option A)). option_flatten o) (slice_get-get_or table k None h)

  pub filled_set : (table : List (Option A)) (k : ℕ) (p : A) → k < length table → entry table k ≡ None → filled (slice_set table k (Some p)) ≡ filled table + 1
  filled_set table k p h e =
      let g : one (get_or table k None) ≡ 0 = ap one (sym (entry-get table k h) ∙ e) in
      omega (arith, sum_by-set one table k (Some p) None h)

  entry_set : (table : List (Option A)) (k j : ℕ) (o : Option A) → k < length table → ((j ≡ k) × (entry (slice_set table k o) j ≡ o)) ⊎ (entry (slice_set table k o) j ≡ entry table j)
  entry_set [] k j o h = absurd (omega arith)
  entry_set (x ∷ xs) zero zero o h = inl (refl, refl)
  entry_set (x ∷ xs) zero (suc j) o h = inr refl
  entry_set (x ∷ xs) (suc k) zero o h = inr refl
  entry_set (x ∷ xs) (suc k) (suc j) o h =
      elim (entry_set xs k j o (omega arith)) [ inl g ↦ inl (ap suc g.0, g.1) | inr g ↦ inr g ]

  pub filled_length : (table : List (Option A)) → filled table ≤ length table
  filled_length [] = omega arith
  filled_length (None ∷ xs) = omega (arith, filled_length xs, sum_by-cons one None xs)
  filled_length (Some p ∷ xs) = omega (arith, filled_length xs, sum_by-cons one (Some p) xs)

  some_of : (o : Option A) → IsSome o → (a : A) × (o ≡ Some a)
  some_of None h = cc
  some_of (Some a) h = (a, refl)

  module _ (step : (ℕ → Option A) → ℕ → Option A) (monotone : IsMonotone step) where
    -- at a known entry the step adds nothing
    pub known_closed : (table : List (Option A)) (k : ℕ) → IsSoundTable step table → IsSome (entry table k) → IsClosed step table k
    known_closed table k sound h p f =
        let q = some_of (entry table k) h in
        let a = known_next step monotone (filled table) k q.0 (sound k q.0 q.1) in
        let b : known step (suc (filled table)) k ≡ Some p = monotone (entry table) (known step (filled table)) sound k p f in
        q.1 ∙ (sym a ∙ b)

    set_sound : (table : List (Option A)) (k : ℕ) (p : A) → k < length table → IsSoundTable step table → entry table k ≡ None → step (entry table) k ≡ Some p → IsSoundTable step (slice_set table k (Some p))
    set_sound table k p h sound e f j q g =
        let n : filled (slice_set table k (Some p)) ≡ suc (filled table) = omega (arith, filled_set table k p h e) in
        subst (λ (x : ℕ). known step x j ≡ Some q) (sym n) (at j q g (entry_set table k j (Some p) h))
      where
        at : (j : ℕ) (q : A) → entry (slice_set table k (Some p)) j ≡ Some q → ((j ≡ k) × (entry (slice_set table k (Some p)) j ≡ Some p)) ⊎ (entry (slice_set table k (Some p)) j ≡ entry table j) → known step (suc (filled table)) j ≡ Some q
        at j q g (inl r) = subst (λ (x : ℕ). known step (suc (filled table)) x ≡ Some q) (sym r.0) (monotone (entry table) (known step (filled table)) sound k q (f ∙ (sym r.1 ∙ g)))
        at j q g (inr r) = known_next step monotone (filled table) j q (sound j q (sym r ∙ g))

    -- setting what the step makes known keeps the table sound
    pub set_found : (table : List (Option A)) (k : ℕ) (o : Option A) → k < length table → IsSoundTable step table → entry table k ≡ None → o ≡ step (entry table) k → IsSome o → IsSoundTable step (slice_set table k o)
    set_found table k None h sound e f g = cc
    set_found table k (Some p) h sound e f g = set_sound table k p h sound e (sym f)

    -- closed below the count is closed everywhere
    closed_everywhere : (table : List (Option A)) (count : ℕ) → ((k : ℕ) → k < length table → IsClosed step table k) → length table ≡ count → ((s : ℕ → Option A) (k : ℕ) → count ≤ k → step s k ≡ None) → (k : ℕ) → IsClosed step table k
    closed_everywhere table count closed same none k = elim (below_or k (length table)) [ inl h ↦ closed k h | inr h ↦ past (subst (λ (n : ℕ). n ≤ k) same h) ]
      where
        past : count ≤ k → IsClosed step table k
        past h p e = let m : None ≡ Some p = sym (none (entry table) k h) ∙ e in cc

    -- a sound table to which the step adds nothing is the least fixed point
    pub finished : (table : List (Option A)) (count : ℕ) → length table < 2 ^ 64 → IsSoundTable step table → ((k : ℕ) → k < length table → IsClosed step table k) → length table ≡ count → ((s : ℕ → Option A) (k : ℕ) → count ≤ k → step s k ≡ None) → (k : ℕ) → entry table k ≡ fixpoint step k
    unfolding most
    finished table count small sound closed same none k =
        agree (entry table k) (fixpoint step k)
        (λ p e. known_up step monotone (filled table) most (omega (arith, filled_length table, small)) k p (sound k p e))
        (fixpoint_least step monotone (entry table) (closed_everywhere table count closed same none) k)

  pub blank_sound : (step : (ℕ → Option A) → ℕ → Option A) (table : List (Option A)) → filled table ≡ 0 → IsSoundTable step table
  blank_sound step table e k p h = absurd (never table k p e h)
    where
      never : (table : List (Option A)) (k : ℕ) (p : A) → filled table ≡ 0 → entry table k ≡ Some p → ⊥
      never [] k p e h = cc
      never (None ∷ xs) zero p e h = cc
      never (Some x ∷ xs) zero p e h = omega (arith, sum_by-cons one (Some x) xs)
      never (None ∷ xs) (suc k) p e h = never xs k p (omega (arith, sum_by-cons one None xs)) h
      never (Some x ∷ xs) (suc k) p e h = omega (arith, sum_by-cons one (Some x) xs)
