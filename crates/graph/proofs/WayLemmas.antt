-- A way that is shown to be the cycle of its first vertex is that cycle.
use Rattle.std.proofs.Common.{◌≡◌, ℕ, zero, suc, ◌+◌, ◌-◌, ◌^◌, ◌<◌, ◌≤◌, Bool, true, false, not, ◌&&◌, ◌||◌, nat_eq, cond, List, [], ◌∷◌, ◌++◌, length, take, Option, Some, None, inl, inr, refl, sym, ap, ◌∙◌, subst, arith, if◌then◌else◌}
use Rattle.std.specs.Prelude.{slice_get, unwrap_or, is_some}
use Rattle.std.specs.List.{find}
use Rattle.std.proofs.lemmas.Bool.{eqb-true, eq-eqb, and_parts, and_from, or_cases, or_left, or_right}
use Rattle.std.proofs.lemmas.Option.{slice_get_within}
use Rattle.fixpoint.specs.Fixpoints.{Under, known, most, entry}
use Rattle.fixpoint.proofs.Laws.{known_fixpoint}
use Rattle.graph.specs.Graphs.{if_found, among, leads, reach_step, reach, next_of, cycle_from, cycle_of, successors_in}
use Rattle.graph.specs.Reach.{reach_step_monotone}
use Rattle.graph.specs.Ways.{is_within, passes, all_pass, goes_on, is_found, next_on, off_by, IsWay}

-- ---- the first of a list

in_some : {A : Type 0} {a b : A} → Some a ≡ Some b → a ≡ b
in_some e = cc

take_next : (xs : List ℕ) (k x : ℕ) → slice_get xs k ≡ Some x → take (k + 1) xs ≡ take k xs ++ x ∷ []
take_next [] k x e = cc
take_next (y ∷ xs) zero x e = ap (λ z. z ∷ []) (in_some e)
take_next (y ∷ xs) (suc k) x e = let n : suc k + 1 ≡ suc (k + 1) = omega arith in rw n (ap (λ zs. y ∷ zs) (take_next xs k x e))

take_whole : (xs : List ℕ) (k : ℕ) → slice_get xs k ≡ None → take k xs ≡ xs
take_whole [] zero e = refl
take_whole [] (suc k) e = refl
take_whole (x ∷ xs) zero e = cc
take_whole (x ∷ xs) (suc k) e = ap (λ ys. x ∷ ys) (take_whole xs k e)

among_first : (n j : ℕ) (xs : List ℕ) (k : ℕ) → slice_get xs j ≡ Some k → j < n → among nat_eq (take n xs) k ≡ true
among_first zero j xs k e h = absurd (omega arith)
among_first (suc n) j [] k e h = cc
among_first (suc n) zero (x ∷ xs) k e h = or_left (nat_eq x k) (among nat_eq (take n xs) k) (eq-eqb x k (in_some e))
among_first (suc n) (suc j) (x ∷ xs) k e h = or_right (nat_eq x k) (among nat_eq (take n xs) k) (among_first n j xs k e (omega arith))

found_first : (n : ℕ) (xs : List ℕ) (k : ℕ) → among nat_eq (take n xs) k ≡ true → (j : ℕ) × (j < n) × (slice_get xs j ≡ Some k)
found_first zero [] k h = cc
found_first zero (x ∷ xs) k h = cc
found_first (suc n) [] k h = cc
found_first (suc n) (x ∷ xs) k h = elim (or_cases (nat_eq x k) (among nat_eq (take n xs) k) h) [
  | inl e ↦ (0, omega arith, ap Some (eqb-true x k e))
  | inr g ↦ let r = found_first n xs k g in (suc r.0, omega (arith, r.1), r.2)
]

-- ---- tests

number_is : (k : ℕ) (o : Option ℕ) → is_found k o ≡ true → o ≡ Some k
number_is k None h = cc
number_is k (Some x) h = ap Some (eqb-true x k h)

within_is : (level : ℕ) (o : Option ℕ) → is_within level o ≡ true → (j : ℕ) × (o ≡ Some j) × (j ≤ level)
within_is level None h = cc
within_is level (Some j) h = (j, refl, grind (arith, h))

is_not : (b : Bool) → not b ≡ true → b ≡ false
is_not true h = cc
is_not false h = refl

off_avoided : (g a s : Bool) → g ≡ false → a ≡ true → (g || (not a && s)) ≡ false
off_avoided true a s e f = cc
off_avoided false true s e f = refl
off_avoided false false s e f = cc

off_unknown : (g a s : Bool) → g ≡ false → s ≡ false → (g || (not a && s)) ≡ false
off_unknown true a s e f = cc
off_unknown false true s e f = refl
off_unknown false false s e f = f

module _ (graph : List (List ℕ)) (goal : ℕ) (way : List ℕ) (levels : List (Option ℕ)) (shown : IsWay graph goal way levels) where
  abbrev edges : ℕ → List ℕ
  edges = successors_in graph

  abbrev level_at : ℕ → Option ℕ
  level_at = entry levels

  -- the vertices up to a position
  abbrev up_to : ℕ → List ℕ
  up_to position = take (position + 1) way

  abbrev Marks : Type 0
  Marks = ℕ → Option (Unit {0})

  -- what reaches the goal past the vertices up to a position
  abbrev step : ℕ → Marks → Marks
  step position = reach_step edges nat_eq goal (up_to position)

  -- ---- positions

  -- a vertex of the way has its position as level
  level_is : (position k : ℕ) → slice_get way position ≡ Some k → level_at k ≡ Some position
  level_is position k e = number_is position (level_at k) (and_parts (is_found position (level_at k)) (goes_on level_at goal position (next_on way goal position) (edges k)) (shown.on position k (slice_get_within way position k e) e)).0

  -- and leads on from there
  ahead : (position k : ℕ) → slice_get way position ≡ Some k → goes_on level_at goal position (next_on way goal position) (edges k) ≡ true
  ahead position k e = (and_parts (is_found position (level_at k)) (goes_on level_at goal position (next_on way goal position) (edges k)) (shown.on position k (slice_get_within way position k e) e)).1

  one_position : (i j k : ℕ) → slice_get way i ≡ Some k → slice_get way j ≡ Some k → i ≡ j
  one_position i j k e f = in_some (sym (level_is i k e) ∙ level_is j k f)

  not_before : (i m k : ℕ) → slice_get way m ≡ Some k → i < m → among nat_eq (up_to i) k ≡ false
  not_before i m k e h = at (among nat_eq (up_to i) k) refl
    where
      at : (b : Bool) → among nat_eq (up_to i) k ≡ b → b ≡ false
      at false f = refl
      at true f = let r = found_first (i + 1) way k f in absurd (omega (arith, h, r.1, one_position r.0 m k r.2 e))

  -- ---- what was left leads nowhere

  -- nothing is known of a vertex that was left before a position
  abbrev Unknown : ℕ → Marks → Type 0
  Unknown i marks = (k j : ℕ) → level_at k ≡ Some j → j ≤ i → is_found k (slice_get way j) ≡ false → marks k ≡ None

  module _ (i level : ℕ) (marks : Marks) (unknown : Unknown i marks) (below : level ≤ i) where
    passed_off : (k : ℕ) → passes level_at goal level k ≡ true → leads nat_eq goal (up_to i) marks k ≡ false
    passed_off k p = at (is_found k (slice_get way w.0)) refl
      where
        parts : (not (nat_eq goal k) ≡ true) × (is_within level (level_at k) ≡ true)
        parts = and_parts (not (nat_eq goal k)) (is_within level (level_at k)) p

        w : (j : ℕ) × (level_at k ≡ Some j) × (j ≤ level)
        w = within_is level (level_at k) parts.1

        at : (b : Bool) → is_found k (slice_get way w.0) ≡ b → leads nat_eq goal (up_to i) marks k ≡ false
        at true f = off_avoided (nat_eq goal k) (among nat_eq (up_to i) k) (is_some (marks k)) (is_not (nat_eq goal k) parts.0) (among_first (i + 1) w.0 way k (number_is k (slice_get way w.0) f) (omega (arith, w.2, below)))
        at false f = off_unknown (nat_eq goal k) (among nat_eq (up_to i) k) (is_some (marks k)) (is_not (nat_eq goal k) parts.0) (ap is_some (unknown k w.0 w.1 (omega (arith, w.2, below)) f))

    skipped : (k : ℕ) (ks : List ℕ) → passes level_at goal level k ≡ true → find (leads nat_eq goal (up_to i) marks) (k ∷ ks) ≡ find (leads nat_eq goal (up_to i) marks) ks
    skipped k ks p = ap (λ (b : Bool). cond b (Some k) (find (leads nat_eq goal (up_to i) marks) ks)) (passed_off k p)

    none_found : (ks : List ℕ) → all_pass level_at goal level ks ≡ true → find (leads nat_eq goal (up_to i) marks) ks ≡ None
    none_found [] p = refl
    none_found (k ∷ ks) p =
        let a = and_parts (passes level_at goal level k) (all_pass level_at goal level ks) p in
        skipped k ks a.0 ∙ none_found ks a.1

  stays_unknown : (i rounds : ℕ) → Unknown i (known (step i) rounds)
  stays_unknown i zero k j e l f = refl
  stays_unknown i (suc rounds) k j e l f = at (slice_get graph k) refl (λ p. ap (if_found) (none_found i j (known (step i) rounds) (stays_unknown i rounds) l (edges k) p))
    where
      left : is_found k (slice_get way j) || all_pass level_at goal j (edges k) ≡ true → all_pass level_at goal j (edges k) ≡ true
      left h = elim (or_cases (is_found k (slice_get way j)) (all_pass level_at goal j (edges k)) h) [ inl g ↦ cc | inr g ↦ g ]

      at : (o : Option (List ℕ)) → slice_get graph k ≡ o → (all_pass level_at goal j (edges k) ≡ true → step i (known (step i) rounds) k ≡ None) → step i (known (step i) rounds) k ≡ None
      at None g more = ap (λ (o : Option (List ℕ)). if_found (find (leads nat_eq goal (up_to i) (known (step i) rounds)) (unwrap_or o []))) g
      at (Some ks) g more = more (left (subst (λ (o : Option ℕ). off_by graph goal way levels k o ≡ true) e (shown.off k (slice_get_within graph k ks g))))

  -- ---- the way leads back

  -- the vertex behind a position leads on, where the vertices behind it are known to reach the goal
  next_leads : (i m : ℕ) (marks : Marks) → i ≤ m → ((c : ℕ) → slice_get way (m + 1) ≡ Some c → marks c ≡ Some tt) → leads nat_eq goal (up_to i) marks (next_on way goal m) ≡ true
  next_leads i m marks l more = at (slice_get way (m + 1)) refl
    where
      at : (o : Option ℕ) → slice_get way (m + 1) ≡ o → leads nat_eq goal (up_to i) marks (unwrap_or o goal) ≡ true
      at None g = or_left (nat_eq goal goal) (not (among nat_eq (up_to i) goal) && is_some (marks goal)) (eq-eqb goal goal refl)
      at (Some c) g = or_right (nat_eq goal c) (not (among nat_eq (up_to i) c) && is_some (marks c))
          (and_from (not (among nat_eq (up_to i) c)) (is_some (marks c)) (ap not (not_before i (m + 1) c g (omega arith))) (ap is_some (more c g)))

  module _ (i m : ℕ) (marks : Marks) (next_leads' : leads nat_eq goal (up_to i) marks (next_on way goal m) ≡ true) where
    found_here : (k : ℕ) (ks : List ℕ) → next_on way goal m ≡ k → find (leads nat_eq goal (up_to i) marks) (k ∷ ks) ≡ Some k
    found_here k ks e = ap (λ (b : Bool). cond b (Some k) (find (leads nat_eq goal (up_to i) marks) ks)) (subst (λ (x : ℕ). leads nat_eq goal (up_to i) marks x ≡ true) e next_leads')

    either : (k : ℕ) (b : Bool) (o : Option ℕ) → if_found o ≡ Some tt → if_found (cond b (Some k) o) ≡ Some tt
    either k true o h = refl
    either k false o h = h

    some_found : (ks : List ℕ) → goes_on level_at goal m (next_on way goal m) ks ≡ true → if_found (find (leads nat_eq goal (up_to i) marks) ks) ≡ Some tt
    some_found [] p = cc
    some_found (k ∷ ks) p = elim (or_cases (nat_eq (next_on way goal m) k) (passes level_at goal m k && goes_on level_at goal m (next_on way goal m) ks) p) [
      | inl h ↦ ap (if_found) (found_here k ks (eqb-true (next_on way goal m) k h))
      | inr h ↦ either k (leads nat_eq goal (up_to i) marks k) (find (leads nat_eq goal (up_to i) marks) ks) (some_found ks (and_parts (passes level_at goal m k) (goes_on level_at goal m (next_on way goal m) ks) h).1)
    ]

  -- a vertex behind a position reaches the goal past the vertices up to it
  live : (i n m k : ℕ) → m + n ≡ length way → slice_get way m ≡ Some k → i < m → known (step i) n k ≡ Some tt
  live i zero m k s e h = absurd (omega (arith, s, slice_get_within way m k e))
  live i (suc n) m k s e h =
      some_found i m (known (step i) n) (next_leads i m (known (step i) n) (omega arith) (λ c g. live i n (m + 1) c (omega (arith, s)) g (omega arith))) (edges k) (ahead m k e)

  -- ---- the cycle

  enough : (i n : ℕ) → n ≤ 2 ^ 64 → Under (known (step i) n) (reach edges nat_eq goal (up_to i))
  unfolding most
  enough i n h = known_fixpoint (step i) (reach_step_monotone edges nat_eq goal (up_to i)) n h

  reaches_on : (i c : ℕ) → slice_get way (i + 1) ≡ Some c → reach edges nat_eq goal (up_to i) c ≡ Some tt
  reaches_on i c g =
      let w = slice_get_within way (i + 1) c g in
      enough i (length way - (i + 1)) (omega (arith, shown.short)) c tt (live i (length way - (i + 1)) (i + 1) c (omega (arith, w)) g (omega arith))

  next_is : (i k : ℕ) → slice_get way i ≡ Some k → next_of edges nat_eq goal (up_to i) k ≡ Some (next_on way goal i)
  next_is i k e = first (edges k) (ahead i k e)
    where
      marks : Marks
      marks = reach edges nat_eq goal (up_to i)

      next_leads' : leads nat_eq goal (up_to i) (reach edges nat_eq goal (up_to i)) (next_on way goal i) ≡ true
      next_leads' = next_leads i i (reach edges nat_eq goal (up_to i)) (omega arith) (reaches_on i)

      first : (ks : List ℕ) → goes_on level_at goal i (next_on way goal i) ks ≡ true → find (leads nat_eq goal (up_to i) (reach edges nat_eq goal (up_to i))) ks ≡ Some (next_on way goal i)
      first [] p = cc
      first (c ∷ ks) p = elim (or_cases (nat_eq (next_on way goal i) c) (passes level_at goal i c && goes_on level_at goal i (next_on way goal i) ks) p) [
        | inl h ↦ let s = eqb-true (next_on way goal i) c h in found_here i i (reach edges nat_eq goal (up_to i)) next_leads' c ks s ∙ ap Some (sym s)
        | inr h ↦
            let a = and_parts (passes level_at goal i c) (goes_on level_at goal i (next_on way goal i) ks) h in
            skipped i i (reach edges nat_eq goal (up_to i)) (stays_unknown i most) (omega arith) c ks a.0 ∙ first ks a.1
      ]

  cycle_on : (n rounds i k : ℕ) → n ≤ rounds → i + n ≡ length way → slice_get way i ≡ Some k → cycle_from edges nat_eq rounds goal (up_to i) k ≡ way
  cycle_on zero rounds i k l s e = absurd (omega (arith, s, slice_get_within way i k e))
  cycle_on (suc n) zero i k l s e = absurd (omega arith)
  cycle_on (suc n) (suc rounds) i k l s e = at (slice_get way (i + 1)) refl (λ c g. cycle_on n rounds (i + 1) c (omega arith) (omega (arith, s)) g)
    where
      successor : Option ℕ → List ℕ
      successor o = elim o as (λ o. List ℕ) [ None ↦ up_to i | Some c ↦ if nat_eq goal c then up_to i else cycle_from edges nat_eq rounds goal (up_to i ++ c ∷ []) c ]

      other : (c : ℕ) → slice_get way (i + 1) ≡ Some c → (b : Bool) → nat_eq goal c ≡ b → b ≡ false
      other c g true h = let z : 0 ≡ i + 1 = one_position 0 (i + 1) c (shown.first ∙ ap Some (eqb-true goal c h)) g in absurd (omega (arith, z))
      other c g false h = refl

      at : (o : Option ℕ) → slice_get way (i + 1) ≡ o → ((c : ℕ) → slice_get way (i + 1) ≡ Some c → cycle_from edges nat_eq rounds goal (up_to (i + 1)) c ≡ way) → cycle_from edges nat_eq (suc rounds) goal (up_to i) k ≡ way
      at None g more =
          ap successor (next_is i k e ∙ ap (λ (o : Option ℕ). Some (unwrap_or o goal)) g)
          ∙ (ap (λ (b : Bool). if b then up_to i else cycle_from edges nat_eq rounds goal (up_to i ++ goal ∷ []) goal) (eq-eqb goal goal refl) ∙ take_whole way (i + 1) g)
      at (Some c) g more =
          ap successor (next_is i k e ∙ ap (λ (o : Option ℕ). Some (unwrap_or o goal)) g)
          ∙ (ap (λ (b : Bool). if b then up_to i else cycle_from edges nat_eq rounds goal (up_to i ++ c ∷ []) c) (other c g (nat_eq goal c) refl)
          ∙ (ap (λ (ps : List ℕ). cycle_from edges nat_eq rounds goal ps c) (sym (take_next way (i + 1) c g)) ∙ more c g))

  -- the way is the cycle
  pub way_is : way ≡ cycle_of edges nat_eq goal
  unfolding most
  way_is = sym (subst (λ (ps : List ℕ). cycle_from edges nat_eq most goal ps goal ≡ way) (take_next way 0 goal shown.first) (cycle_on (length way) (2 ^ 64) 0 goal (omega (arith, shown.short)) (omega arith) shown.first))
