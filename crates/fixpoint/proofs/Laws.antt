-- Laws of least fixed points, for keys of any type.
use Rattle.std.proofs.Common.{◌≡◌, ℕ, zero, suc, ◌+◌, ◌-◌, ◌<◌, ◌≤◌, ◌⊎◌, inl, inr, Option, Some, None, refl, sym, ◌∙◌, subst, arith}
use Rattle.fixpoint.specs.OptionOrder.{Le}
use Rattle.fixpoint.specs.Fixpoints.{Under, IsMonotone, UnderOn, Simulates, Satisfies, most, known, fixpoint, one}

-- one number is below another, or not
pub below_or : (a b : ℕ) → (a < b) ⊎ (b ≤ a)
below_or a zero = inr (omega arith)
below_or zero (suc b) = inl (omega arith)
below_or (suc a) (suc b) = elim (below_or a b) [ inl h ↦ inl (omega (arith, h)) | inr h ↦ inr (omega (arith, h)) ]

-- ---- one step beside another

-- the fixed point of one step simulates that of another, where the steps keep the simulation
module _ {K L A B : Type 0} (R : K → L → Type 0) (V : A → B → Type 0) (f : (K → Option A) → K → Option A) (g : (L → Option B) → L → Option B) where
  -- by rounds: the step is told the number of rounds, for what holds after each of them
  pub known_simulates : ((n : ℕ) → Simulates R V (known f n) (known g n) → Simulates R V (known f (suc n)) (known g (suc n))) → (n : ℕ) → Simulates R V (known f n) (known g n)
  known_simulates h zero k l r a e = cc
  known_simulates h (suc n) k l r a e = h n (known_simulates h n) k l r a e

  pub fixpoint_simulates : ((s : K → Option A) (t : L → Option B) → Simulates R V s t → Simulates R V (f s) (g t)) → Simulates R V (fixpoint f) (fixpoint g)
  fixpoint_simulates h = known_simulates (λ n. h (known f n) (known g n)) most

-- what one step makes known of some keys, another does
module _ {K A : Type 0} (D : K → Type 0) (f g : (K → Option A) → K → Option A) where
  pub known_under : ((n : ℕ) → UnderOn D (known f n) (known g n) → UnderOn D (known f (suc n)) (known g (suc n))) → (n : ℕ) → UnderOn D (known f n) (known g n)
  known_under h zero k d a e = cc
  known_under h (suc n) k d a e = h n (known_under h n) k d a e

  pub fixpoint_under : ((s t : K → Option A) → UnderOn D s t → UnderOn D (f s) (g t)) → UnderOn D (fixpoint f) (fixpoint g)
  fixpoint_under h = known_under (λ n. h (known f n) (known g n)) most

-- ---- what each known value has

module _ {K A : Type 0} (Q : K → A → Type 0) (f : (K → Option A) → K → Option A) where
  pub known_satisfies : ((n : ℕ) → Satisfies Q (known f n) → Satisfies Q (known f (suc n))) → (n : ℕ) → Satisfies Q (known f n)
  known_satisfies h zero k a e = cc
  known_satisfies h (suc n) k a e = h n (known_satisfies h n) k a e

  pub fixpoint_satisfies : ((s : K → Option A) → Satisfies Q s → Satisfies Q (f s)) → Satisfies Q (fixpoint f)
  fixpoint_satisfies h = known_satisfies (λ n. h (known f n)) most

-- ---- a monotone step

module _ {K A : Type 0} (step : (K → Option A) → K → Option A) (monotone : IsMonotone step) where
  pub known_next : (n : ℕ) → Under (known step n) (known step (suc n))
  known_next zero k a e = cc
  known_next (suc n) k a e = monotone (known step n) (known step (suc n)) (known_next n) k a e

  -- more rounds keep what is known
  pub known_more : (m n : ℕ) → Under (known step n) (known step (m + n))
  known_more zero n k a e = let h : n ≡ 0 + n = omega arith in subst (λ (x : ℕ). known step x k ≡ Some a) h e
  known_more (suc m) n k a e =
      let h : suc (m + n) ≡ suc m + n = omega arith in
      subst (λ (x : ℕ). known step x k ≡ Some a) h (known_next (m + n) k a (known_more m n k a e))

  pub known_up : (m n : ℕ) → m ≤ n → Under (known step m) (known step n)
  known_up m n below k a e = let h : (n - m) + m ≡ n = omega (arith, below) in subst (λ (x : ℕ). known step x k ≡ Some a) h (known_more (n - m) m k a e)

  -- what is known after some rounds is known in the end
  pub known_fixpoint : (n : ℕ) → n ≤ most → Under (known step n) (fixpoint step)
  known_fixpoint n = known_up n most

  -- what is known in the end, the step makes known from it
  pub fixpoint_unfolds : Under (fixpoint step) (step (fixpoint step))
  fixpoint_unfolds = known_next most

  -- nothing less is closed under the step
  pub known_least : (s : K → Option A) → Under (step s) s → (n : ℕ) → Under (known step n) s
  known_least s closed zero k a e = cc
  known_least s closed (suc n) k a e = closed k a (monotone (known step n) s (known_least s closed n) k a e)

  pub fixpoint_least : (s : K → Option A) → Under (step s) s → Under (fixpoint step) s
  fixpoint_least s closed = known_least s closed most

-- two optional values that are below one another are one
pub agree : {A : Type 0} (o q : Option A) → Le o q → Le q o → o ≡ q
agree None None g h = refl
agree None (Some b) g h = h b refl
agree (Some a) q g h = sym (g a refl)

-- ---- a monotone step over finitely many keys

module _ {K A : Type 0} (step : (K → Option A) → K → Option A) (monotone : IsMonotone step) (keys : ℕ → K) (count : ℕ) (few : count < most) (listed : (k : K) → ((i : ℕ) × (i < count) × (keys i ≡ k)) ⊎ ((s : K → Option A) → step s k ≡ None)) where
  -- how many of the first keys are known
  number : (K → Option A) → ℕ → ℕ
  number s zero = 0
  number s (suc i) = one (s (keys i)) + number s i

  one_le : (o q : Option A) → Le o q → one o ≤ one q
  one_le None q h = omega arith
  one_le (Some a) q h = rw (h a refl) (omega arith)

  one_below : (o : Option A) → one o ≤ 1
  one_below None = omega arith
  one_below (Some a) = omega arith

  same_or_more : (o q : Option A) → Le o q → Le q o ⊎ (one o < one q)
  same_or_more None None h = inl (λ a e. e)
  same_or_more None (Some b) h = inr (omega arith)
  same_or_more (Some a) q h = inl (λ b e. let f = h a refl in cc)

  number_below : (s : K → Option A) (n : ℕ) → number s n ≤ n
  unfolding number
  number_below s zero = omega arith
  number_below s (suc i) = omega (arith, number_below s i, one_below (s (keys i)))

  number_le : (s t : K → Option A) → Under s t → (n : ℕ) → number s n ≤ number t n
  unfolding number
  number_le s t u zero = omega arith
  number_le s t u (suc i) = omega (arith, number_le s t u i, one_le (s (keys i)) (t (keys i)) (u (keys i)))

  -- no key is gained, or more are known
  gains : (s t : K → Option A) → Under s t → (n : ℕ) → ((i : ℕ) → i < n → Le (t (keys i)) (s (keys i))) ⊎ (number s n < number t n)
  unfolding number
  gains s t u zero = inl (λ i h. absurd (omega (arith, h)))
  gains s t u (suc n) = at (same_or_more (s (keys n)) (t (keys n)) (u (keys n))) (gains s t u n)
    where
      last : Le (t (keys n)) (s (keys n)) → ((i : ℕ) → i < n → Le (t (keys i)) (s (keys i))) → (i : ℕ) → i < suc n → Le (t (keys i)) (s (keys i))
      last l more i h = elim (below_or i n) [ inl g ↦ more i g | inr g ↦ let e : n ≡ i = omega (arith, g, h) in subst (λ (x : ℕ). Le (t (keys x)) (s (keys x))) e l ]

      at : Le (t (keys n)) (s (keys n)) ⊎ (one (s (keys n)) < one (t (keys n))) → ((i : ℕ) → i < n → Le (t (keys i)) (s (keys i))) ⊎ (number s n < number t n) → ((i : ℕ) → i < suc n → Le (t (keys i)) (s (keys i))) ⊎ (one (s (keys n)) + number s n < one (t (keys n)) + number t n)
      at (inl l) (inl more) = inl (last l more)
      at (inl l) (inr h) = inr (omega (arith, h, one_le (s (keys n)) (t (keys n)) (u (keys n))))
      at (inr h) more = inr (omega (arith, h, number_le s t u n))

  -- where no listed key is gained, none is
  none_gained : (n : ℕ) → ((i : ℕ) → i < count → Le (known step (suc n) (keys i)) (known step n (keys i))) → Under (known step (suc n)) (known step n)
  none_gained n h k a e = at (listed k)
    where
      at : ((i : ℕ) × (i < count) × (keys i ≡ k)) ⊎ ((s : K → Option A) → step s k ≡ None) → known step n k ≡ Some a
      at (inl r) = subst (λ (x : K). known step n x ≡ Some a) r.2 (h r.0 r.1 a (subst (λ (x : K). known step (suc n) x ≡ Some a) (sym r.2) e))
      at (inr none) = let m : None ≡ Some a = sym (none (known step n)) ∙ e in cc

  -- after so many rounds one of them added nothing, or each added something
  progress : (n : ℕ) → ((m : ℕ) × (m ≤ n) × Under (known step (suc m)) (known step m)) ⊎ (n ≤ number (known step n) count)
  progress zero = inr (omega arith)
  progress (suc n) = at (progress n) (gains (known step n) (known step (suc n)) (known_next step monotone n) count)
    where
      at : ((m : ℕ) × (m ≤ n) × Under (known step (suc m)) (known step m)) ⊎ (n ≤ number (known step n) count) →
          ((i : ℕ) → i < count → Le (known step (suc n) (keys i)) (known step n (keys i))) ⊎ (number (known step n) count < number (known step (suc n)) count) →
          ((m : ℕ) × (m ≤ suc n) × Under (known step (suc m)) (known step m)) ⊎ (suc n ≤ number (known step (suc n)) count)
      at (inl r) g = inl (r.0, omega (arith, r.1), r.2)
      at (inr h) (inl same) = inl (n, omega arith, none_gained n same)
      at (inr h) (inr more) = inr (omega (arith, h, more))

  -- what the step makes known from what is known in the end, is known in the end
  pub fixpoint_folds : Under (step (fixpoint step)) (fixpoint step)
  fixpoint_folds = at (progress (suc count))
    where
      at : ((m : ℕ) × (m ≤ suc count) × Under (known step (suc m)) (known step m)) ⊎ (suc count ≤ number (known step (suc count)) count) → Under (step (fixpoint step)) (fixpoint step)
      at (inl r) = λ k a e. known_up step monotone r.0 most (omega (arith, r.1, few)) k a (known_least step monotone (known step r.0) r.2 (suc most) k a e)
      at (inr h) = absurd (omega (arith, h, number_below (known step (suc count)) count))

  -- the least fixed point is a fixed point
  pub fixpoint_is_fixed : (k : K) → fixpoint step k ≡ step (fixpoint step) k
  fixpoint_is_fixed k = agree (fixpoint step k) (step (fixpoint step) k) (fixpoint_unfolds step monotone k) (fixpoint_folds k)
