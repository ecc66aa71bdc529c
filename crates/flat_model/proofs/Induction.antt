-- k-induction is right: where Base(1) to Base(k) and Step(k) hold, no run violates the invariant.
use Rattle.std.proofs.Common.{◌≡◌, ℕ, zero, suc, ◌<◌, ◌≤◌, Bool, true, false, List, [], ◌∷◌, length, refl, sym, subst, arith, ◌⊎◌, inl, inr}
use Rattle.std.specs.Prelude.{◌&&◌, ◌≢◌, not}
use Rattle.std.specs.List.{AllByRecursion}
use Rattle.std.proofs.lemmas.Bool.{cases_Bool, cases_lt, and_parts, and_from, not-true, not_from_false, both_ways, false_from_ne_true}
use Rattle.flat_model.specs.Machines.{Machine, last_of, is_path, is_run, violates, keeps_before_last, AreDistinct, IsStuck, BaseTo, Step}

module _ (S : Type 0) (equal : (a b : S) → Dec (a ≡ b)) (m : Machine S) (p : ℕ) where
  -- the states s, ts are a path to a state that breaks the invariant
  pub record Breaks (s : S) (ts : List S) : Type 0 where
    pub path : is_path m p s ts ≡ true
    pub broken : m.invariant p (last_of s ts) ≡ false

  first_inside : (s : S) (ts : List S) → is_path m p s ts ≡ true → m.inside p s ≡ true
  first_inside s [] h = h
  first_inside s (t ∷ ts) h = (and_parts (m.inside p s) (m.step p s t && is_path m p t ts) h).0

  tail_breaks : (s t : S) (ts : List S) → Breaks s (t ∷ ts) → Breaks t ts
  tail_breaks s t ts b = record {
    path = (and_parts (m.step p s t) (is_path m p t ts) (and_parts (m.inside p s) (m.step p s t && is_path m p t ts) b.path).1).1;
    broken = b.broken;
  }

  -- the same first step, and another tail
  other_tail : (s t : S) (ts us : List S) → Breaks s (t ∷ ts) → Breaks t us → Breaks s (t ∷ us)
  other_tail s t ts us b c = record {
    path =
        let parts = and_parts (m.inside p s) (m.step p s t && is_path m p t ts) b.path in
        and_from (m.inside p s) (m.step p s t && is_path m p t us) parts.0 (and_from (m.step p s t) (is_path m p t us) (and_parts (m.step p s t) (is_path m p t ts) parts.1).0 c.path);
    broken = c.broken;
  }

  abbrev Shorter : S → List S → Type 0
  Shorter s ts = (us : List S) × Breaks s us × (length us < length ts)

  -- where s stands again among t, ts, there is a shorter way from s
  again : (s t : S) (ts : List S) → Breaks t ts → AllByRecursion (λ u. s ≢ u) (t ∷ ts) ⊎ Shorter s (t ∷ ts)
  again s t [] b = elim (equal s t) [
    | yes e ↦ inr ([], subst (λ (x : S). Breaks x []) (sym e) b, omega arith)
    | no differ ↦ inl (differ, tt)
  ]
  again s t (u ∷ ts) b = elim (equal s t) [
    | yes e ↦ inr (u ∷ ts, subst (λ (x : S). Breaks x (u ∷ ts)) (sym e) b, omega arith)
    | no differ ↦ elim (again s u ts (tail_breaks t u ts b)) [
      | inl apart ↦ inl (differ, apart)
      | inr (us, c, h) ↦ inr (us, c, omega arith)
    ]
  ]

  -- no state stands twice, and only the last breaks the invariant
  pub record IsShortest (s : S) (ts : List S) : Type 0 where
    pub kept : keeps_before_last m p s ts ≡ true
    pub distinct : AreDistinct (s ∷ ts)

  -- loops are cut out
  pub cut_loops : (s : S) (ts : List S) → Breaks s ts → IsShortest s ts ⊎ Shorter s ts
  cut_loops s [] b = inl (record { kept = refl; distinct = (tt, tt) })
  cut_loops s (t ∷ ts) b = elim (cases_Bool (m.invariant p s)) [
    | inr broken ↦ inr ([], record { path = first_inside s (t ∷ ts) b.path; broken = broken }, omega arith)
    | inl kept ↦ elim (again s t ts (tail_breaks s t ts b)) [
      | inr shorter ↦ inr shorter
      | inl apart ↦ elim (cut_loops t ts (tail_breaks s t ts b)) [
        | inl tail ↦ inl (record { kept = and_from (m.invariant p s) (keeps_before_last m p t ts) kept tail.kept; distinct = (apart, tail.distinct) })
        | inr (us, c, h) ↦ inr (t ∷ us, other_tail s t ts us b c, omega arith)
      ]
    ]
  ]

  -- the last k + 1 states are stuck
  pub stuck_tail : (k : ℕ) (s : S) (ts : List S) → Breaks s ts → IsShortest s ts → k ≤ length ts → (t : S) × (us : List S) × IsStuck m p t us × (length us ≡ k)
  stuck_tail k s [] b c h = (s, [], record { path = b.path; kept = c.kept; broken = b.broken; distinct = c.distinct }, omega arith)
  stuck_tail k s (t ∷ ts) b c h = elim (cases_lt (length ts) k) [
    | inl all ↦ (s, t ∷ ts, record { path = b.path; kept = c.kept; broken = b.broken; distinct = c.distinct }, omega arith)
    | inr below ↦ stuck_tail k t ts (tail_breaks s t ts b) (record { kept = (and_parts (m.invariant p s) (keeps_before_last m p t ts) c.kept).1; distinct = c.distinct.1 }) below
  ]

  violation : (s : S) (ts : List S) → m.init p s ≡ true → Breaks s ts → violates m p (s ∷ ts) ≡ true
  violation s ts i b =
      and_from (is_run m p (s ∷ ts)) (not (m.invariant p (last_of s ts))) (and_from (m.init p s) (is_path m p s ts) i b.path) (not_from_false (m.invariant p (last_of s ts)) b.broken)

  breaks_from_violation : (s : S) (ts : List S) → violates m p (s ∷ ts) ≡ true → (m.init p s ≡ true) × Breaks s ts
  breaks_from_violation s ts v =
      let parts = and_parts (is_run m p (s ∷ ts)) (not (m.invariant p (last_of s ts))) v in
      let run = and_parts (m.init p s) (is_path m p s ts) parts.0 in
      (run.0, record { path = run.1; broken = not-true (m.invariant p (last_of s ts)) parts.1 })

  module _ (k : ℕ) (base : (run : List S) → length run ≤ k → violates m p run ≡ false) (step : (s : S) (ts : List S) → length ts ≡ k → IsStuck m p s ts → ⊥) where
    one_way : (s : S) (ts : List S) → m.init p s ≡ true → Breaks s ts → ⊥ ⊎ Shorter s ts
    one_way s ts i b = elim (cases_lt (length ts) k) [
      | inl short ↦ inl (both_ways (violates m p (s ∷ ts)) (base (s ∷ ts) (omega arith)) (violation s ts i b))
      | inr long ↦ elim (cut_loops s ts b) [
        | inl shortest ↦ inl (let tail : (t : S) × (us : List S) × IsStuck m p t us × (length us ≡ k) = stuck_tail k s ts b shortest long in step tail.0 tail.1 tail.3 tail.2)
        | inr shorter ↦ inr shorter
      ]
    ]

    never : (fuel : ℕ) (s : S) (ts : List S) → length ts ≤ fuel → m.init p s ≡ true → Breaks s ts → ⊥
    never zero s ts h i b = elim (one_way s ts i b) [ inl none ↦ none | inr (us, c, l) ↦ absurd (omega arith) ]
    never (suc fuel) s ts h i b = elim (one_way s ts i b) [ inl none ↦ none | inr (us, c, l) ↦ never fuel s us (omega arith) i c ]

    pub no_violation : (run : List S) → violates m p run ≡ false
    no_violation [] = refl
    no_violation (s ∷ ts) = false_from_ne_true (violates m p (s ∷ ts)) (λ v. let b = breaks_from_violation s ts v in never (length ts) s ts (omega arith) b.0 b.1)

-- Where Base(1) to Base(k) and Step(k) hold for the products of a cube, none of them has a violating run.
pub induction : (S : Type 0) → ((a b : S) → Dec (a ≡ b)) → (m : Machine S) (within : ℕ → Bool) (k : ℕ) → BaseTo m within k → Step m within k → (p : ℕ) (run : List S) → within p ≡ true → violates m p run ≡ false
induction S equal m within k base step p run w =
    no_violation S equal m p k (λ r h. base p r w h) (λ s ts h stuck. step p s ts w h stuck) run
