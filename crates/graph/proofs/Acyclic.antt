-- Along the edges of vertices that are on no cycle everything ends: what is known of a vertex as soon as it is known of its
-- successors is known of each of them.
use Rattle.std.proofs.Common.{◌≡◌, ℕ, zero, suc, ◌+◌, ◌<◌, ◌≤◌, Bool, true, false, ◌&&◌, nat_eq, cond, List, [], ◌∷◌, length, Option, Some, None, inl, inr, refl, ap, ◌∙◌, subst, arith}
use Rattle.std.specs.Prelude.{is_some}
use Rattle.std.specs.List.{find}
use Rattle.std.proofs.lemmas.Bool.{eqb-true, eq-eqb, or_cases, or_left, or_right}
use Rattle.fixpoint.specs.Fixpoints.{IsMonotone, known, fixpoint, most, one}
use Rattle.fixpoint.proofs.Laws.{below_or, known_fixpoint, fixpoint_is_fixed}
use Rattle.graph.specs.Graphs.{if_found, among, leads, reach_step, reach, successors_in, on_cycle}
use Rattle.graph.specs.Reach.{reach_step_monotone}
use Rattle.graph.proofs.RankLemmas.{reach_step_past}
use Rattle.graph.proofs.Renaming.{AllIn}

-- ---- lists of vertices

all_in : (P : ℕ → Type 0) (ks : List ℕ) → ((c : ℕ) → among nat_eq ks c ≡ true → P c) → AllIn P ks
all_in P [] h = tt
all_in P (x ∷ ks) h = (h x (or_left (nat_eq x x) (among nat_eq ks x) (eq-eqb x x refl)), all_in P ks (λ c m. h c (or_right (nat_eq x c) (among nat_eq ks c) m)))

abbrev Marked : Option ℕ → Type 0
Marked o = if_found o ≡ Some tt

marked : (x : ℕ) (b : Bool) (o : Option ℕ) → Marked o → Marked (cond b (Some x) o)
marked x true o h = refl
marked x false o h = h

-- a vertex that passes the test lets one be found
find_some : (p : ℕ → Bool) (ks : List ℕ) (c : ℕ) → among nat_eq ks c ≡ true → p c ≡ true → Marked (find p ks)
find_some p [] c m h = cc
find_some p (x ∷ ks) c m h = elim (or_cases (nat_eq x c) (among nat_eq ks c) m) [
  | inl e ↦ let g : p x ≡ true = ap p (eqb-true x c e) ∙ h in ap (λ (b : Bool). if_found (cond b (Some x) (find p ks))) g
  | inr g ↦ marked x (p x) (find p ks) (find_some p ks c g h)
]

-- and what is found passes it
found_one : (p : ℕ → Bool) (ks : List ℕ) → Marked (find p ks) → (d : ℕ) × (among nat_eq ks d ≡ true) × (p d ≡ true)
found_one p [] h = cc
found_one p (x ∷ ks) h = at (p x) refl (found_one p ks) h
  where
    at : (b : Bool) → p x ≡ b → (Marked (find p ks) → (d : ℕ) × (among nat_eq ks d ≡ true) × (p d ≡ true)) → Marked (cond b (Some x) (find p ks)) → (d : ℕ) × (among nat_eq (x ∷ ks) d ≡ true) × (p d ≡ true)
    at true g more h = (x, or_left (nat_eq x x) (among nat_eq ks x) (eq-eqb x x refl), g)
    at false g more h = let r = more h in (r.0, or_right (nat_eq x r.0) (among nat_eq ks r.0) r.1, r.2)

module _ (graph : List (List ℕ)) (few : length graph < most) where
  abbrev S : ℕ → List ℕ
  S = successors_in graph

  -- whether the second vertex reaches the first
  abbrev reaches : ℕ → ℕ → Option (Unit {0})
  reaches goal = reach S nat_eq goal []

  fixed : (goal k : ℕ) → reaches goal k ≡ reach_step S nat_eq goal [] (reaches goal) k
  fixed goal = fixpoint_is_fixed (reach_step S nat_eq goal []) (reach_step_monotone S nat_eq goal []) (λ i. i) (length graph) few
      (λ k. elim (below_or k (length graph)) [ inl h ↦ inl (k, h, refl) | inr h ↦ inr (λ s. reach_step_past graph goal [] s k h) ])

  -- a vertex reaches what one of its successors is or reaches
  edge : (goal k c : ℕ) → among nat_eq (S k) c ≡ true → leads nat_eq goal [] (reaches goal) c ≡ true → reaches goal k ≡ Some tt
  edge goal k c m h = fixed goal k ∙ find_some (leads nat_eq goal [] (reaches goal)) (S k) c m h

  is_goal : (c : ℕ) → leads nat_eq c [] (reaches c) c ≡ true
  is_goal c = or_left (nat_eq c c) (true && is_some (reaches c c)) (eq-eqb c c refl)

  leads_on : (goal c : ℕ) → reaches goal c ≡ Some tt → leads nat_eq goal [] (reaches goal) c ≡ true
  leads_on goal c e = or_right (nat_eq goal c) (true && is_some (reaches goal c)) (ap (λ (o : Option (Unit {0})). true && is_some o) e)

  -- how many of the first vertices a vertex reaches
  pub reached_below : ℕ → ℕ → ℕ
  reached_below k zero = 0
  reached_below k (suc goal) = one (reaches goal k) + reached_below k goal

  one_below : (o : Option (Unit {0})) → one o ≤ 1
  one_below None = omega arith
  one_below (Some a) = omega arith

  one_le : (o q : Option (Unit {0})) → (o ≡ Some tt → q ≡ Some tt) → one o ≤ one q
  one_le None q h = omega arith
  one_le (Some tt) q h = rw (h refl) (omega arith)

  none_of : (o : Option (Unit {0})) → is_some o ≡ false → one o ≡ 0
  none_of None h = refl
  none_of (Some a) h = cc

  all_below : (k n : ℕ) → reached_below k n ≤ n
  unfolding reached_below
  all_below k zero = omega arith
  all_below k (suc goal) = omega (arith, all_below k goal, one_below (reaches goal k))

  -- a vertex on no cycle does not reach all
  pub not_all : (k n : ℕ) → on_cycle graph k ≡ false → k < n → reached_below k n < n
  unfolding reached_below
  not_all k zero off h = absurd (omega (arith, h))
  not_all k (suc goal) off h = elim (below_or k goal) [
    | inl g ↦ omega (arith, not_all k goal off g, one_below (reaches goal k))
    | inr g ↦ at (omega (arith, g, h))
  ]
    where
      at : k ≡ goal → one (reaches goal k) + reached_below k goal < suc goal
      at e =
          let a : one (reaches goal k) ≡ 0 = subst (λ (x : ℕ). one (reaches x k) ≡ 0) e (none_of (reaches k k) off) in
          omega (arith, a, all_below k goal)

  -- a successor reaches no more than the vertex
  reached_le : (k c : ℕ) → among nat_eq (S k) c ≡ true → (n : ℕ) → reached_below c n ≤ reached_below k n
  unfolding reached_below
  reached_le k c m zero = omega arith
  reached_le k c m (suc goal) = omega (arith, reached_le k c m goal, one_le (reaches goal c) (reaches goal k) (λ e. edge goal k c m (leads_on goal c e)))

  -- and less, where it does not reach itself
  pub reached_less : (k c : ℕ) → on_cycle graph c ≡ false → among nat_eq (S k) c ≡ true → (n : ℕ) → c < n → reached_below c n < reached_below k n
  unfolding reached_below
  reached_less k c off m zero h = absurd (omega (arith, h))
  reached_less k c off m (suc n) h = elim (below_or c n) [
    | inl g ↦ omega (arith, reached_less k c off m n g, one_le (reaches n c) (reaches n k) (λ e. edge n k c m (leads_on n c e)))
    | inr g ↦ at (omega (arith, g, h)) (reached_le k c m n)
  ]
    where
      at : c ≡ n → reached_below c n ≤ reached_below k n → one (reaches n c) + reached_below c n < one (reaches n k) + reached_below k n
      at e l =
          let a : one (reaches n c) ≡ 0 = subst (λ (x : ℕ). one (reaches x c) ≡ 0) e (none_of (reaches c c) off) in
          let b : one (reaches n k) ≡ 1 = subst (λ (x : ℕ). one (reaches x k) ≡ 1) e (ap one (edge c k c m (is_goal c))) in
          omega (arith, a, b, l)

  -- ---- over vertices that are on no cycle

  module _ (D : ℕ → Type 0) (within : (k : ℕ) → D k → k < length graph) (inside : (k c : ℕ) → D k → among nat_eq (S k) c ≡ true → D c) (acyclic : (k : ℕ) → D k → on_cycle graph k ≡ false) where
    module _ {A : Type 0} (step : (ℕ → Option A) → ℕ → Option A) (defined : (s : ℕ → Option A) (k : ℕ) → D k → AllIn (λ c. is_some (s c) ≡ true) (S k) → is_some (step s k) ≡ true) where
      by_number : (rounds k : ℕ) → D k → reached_below k (length graph) < rounds → is_some (known step rounds k) ≡ true
      by_number zero k d l = absurd (omega (arith, l))
      by_number (suc rounds) k d l = defined (known step rounds) k d (all_in (λ c. is_some (known step rounds c) ≡ true) (S k)
          (λ c m. let i = inside k c d m in by_number rounds c i (omega (arith, reached_less k c (acyclic c i) m (length graph) (within c i), l))))

      -- what is known of a vertex as soon as it is known of its successors, is known in the end
      pub acyclic_known : IsMonotone step → (k : ℕ) → D k → is_some (fixpoint step k) ≡ true
      acyclic_known monotone k d = at (known step (suc (length graph)) k) refl (by_number (suc (length graph)) k d (omega (arith, all_below k (length graph))))
        where
          at : (o : Option A) → known step (suc (length graph)) k ≡ o → is_some o ≡ true → is_some (fixpoint step k) ≡ true
          at None e h = cc
          at (Some a) e h = ap is_some (known_fixpoint step monotone (suc (length graph)) (omega (arith, few)) k a e)
