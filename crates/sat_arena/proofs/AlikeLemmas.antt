-- Trails that differ in their reasons alone.
use Rattle.std.proofs.Common.{◌≡◌, ℕ, suc, zero, ◌<◌, ◌≤◌, ◌+◌, Bool, true, false, cond, List, [], ◌∷◌, Some, length, get_or, set, take, min, arith, refl, inl, inr, ◌⊎◌, sym, ◌∙◌, ap, subst, length-set, get_or-set_same, get_or-set_other}
use Rattle.std.specs.Prelude.{All, ◌||◌, ◌==◌, nat_le}
use Rattle.std.specs.List.{AllPairs}
use mathlib.Core.Path.{fun_ext}
use Rattle.std.proofs.lemmas.Bool.{cases_eq}
use Rattle.std.proofs.lemmas.List.{get_or-take, length-take, get_or_default}
use Rattle.sat_lits.specs.Literals.{negation, variable_of}
use Rattle.sat_arena.specs.declared.trail.Assigned.{Assigned}
use Rattle.sat_arena.specs.Trails.{true_in, up_to, with_reason, marked, IsGrown, IsOrderly, KeepsTogether}
use Rattle.sat_arena.specs.Settled.{HasTrue}
use Rattle.sat_arena.specs.Guarded.{IsGuarded}
use Rattle.sat_arena.specs.Watches.{clause_of, watch_of, KeepsWatches}

-- the entries have the same literals and levels
pub record AreAlike (old new : List Assigned) : Type 0 where
  pub long : length new ≡ length old
  pub lit : (i : ℕ) (d : Assigned) → i < length old → (get_or new i d).lit ≡ (get_or old i d).lit
  pub level : (i : ℕ) (d : Assigned) → i < length old → (get_or new i d).level ≡ (get_or old i d).level

pub AreAlike-nil : AreAlike [] []
AreAlike-nil = record { long = refl; lit = λ i d within. refl; level = λ i d within. refl }

pub AreAlike-tail : (e f : Assigned) (old new : List Assigned) → AreAlike (e ∷ old) (f ∷ new) → AreAlike old new
AreAlike-tail e f old new alike = record {
  long = (let longer : length (f ∷ new) ≡ length (e ∷ old) = alike.long in omega arith);
  lit = λ i d within. alike.lit (suc i) d (omega arith);
  level = λ i d within. alike.level (suc i) d (omega arith);
}

head_lit : (e f : Assigned) (old new : List Assigned) → AreAlike (e ∷ old) (f ∷ new) → f.lit ≡ e.lit
head_lit e f old new alike = alike.lit 0 e (omega arith)

head_level : (e f : Assigned) (old new : List Assigned) → AreAlike (e ∷ old) (f ∷ new) → f.level ≡ e.level
head_level e f old new alike = alike.level 0 e (omega arith)

pub AreAlike-cons : (e f : Assigned) (old new : List Assigned) → f.lit ≡ e.lit → f.level ≡ e.level → AreAlike old new → AreAlike (e ∷ old) (f ∷ new)
AreAlike-cons e f old new lit level alike = record {
  long = ap suc alike.long;
  lit = lits;
  level = levels;
}
  where
    lits : (i : ℕ) (d : Assigned) → i < length (e ∷ old) → (get_or (f ∷ new) i d).lit ≡ (get_or (e ∷ old) i d).lit
    lits zero d within = lit
    lits (suc i) d within = alike.lit i d (omega arith)

    levels : (i : ℕ) (d : Assigned) → i < length (e ∷ old) → (get_or (f ∷ new) i d).level ≡ (get_or (e ∷ old) i d).level
    levels zero d within = level
    levels (suc i) d within = alike.level i d (omega arith)

-- ---- What is true

true_in-alike : (old new : List Assigned) → AreAlike old new → (l : ℕ) → true_in new l ≡ true_in old l
true_in-alike [] [] alike l = refl
true_in-alike [] (f ∷ new) alike l = absurd (let long : length (f ∷ new) ≡ 0 = alike.long in omega arith)
true_in-alike (e ∷ old) [] alike l = absurd (let long : 0 ≡ length (e ∷ old) = alike.long in omega arith)
true_in-alike (e ∷ old) (f ∷ new) alike l =
    ap (λ k. (k == l) || true_in new l) (head_lit e f old new alike)
    ∙ ap (λ b. (e.lit == l) || b) (true_in-alike old new (AreAlike-tail e f old new alike) l)

-- the same literals are true
pub true_same : (old new : List Assigned) → AreAlike old new → true_in new ≡ true_in old
true_same old new alike = fun_ext (true_in-alike old new alike)

pub up_to-alike : (level : ℕ) (old new : List Assigned) → AreAlike old new → AreAlike (up_to level old) (up_to level new)
up_to-alike level [] [] alike = AreAlike-nil
up_to-alike level [] (f ∷ new) alike = absurd (let long : length (f ∷ new) ≡ 0 = alike.long in omega arith)
up_to-alike level (e ∷ old) [] alike = absurd (let long : 0 ≡ length (e ∷ old) = alike.long in omega arith)
up_to-alike level (e ∷ old) (f ∷ new) alike =
    let rest = up_to-alike level old new (AreAlike-tail e f old new alike) in
    subst (λ (k : ℕ). AreAlike (cond (nat_le e.level level) (e ∷ up_to level old) (up_to level old)) (cond (nat_le k level) (f ∷ up_to level new) (up_to level new))) (sym (head_level e f old new alike))
    (elim (nat_le e.level level) as (λ b. AreAlike (cond b (e ∷ up_to level old) (up_to level old)) (cond b (f ∷ up_to level new) (up_to level new))) [
      | true ↦ AreAlike-cons e f (up_to level old) (up_to level new) (head_lit e f old new alike) (head_level e f old new alike) rest
      | false ↦ rest
    ])

pub AreAlike-take : (n : ℕ) (old new : List Assigned) → AreAlike old new → AreAlike (take n old) (take n new)
AreAlike-take n old new alike =
    let long : length (take n new) ≡ length (take n old) = length-take n new ∙ ap (λ k. min n k) alike.long ∙ sym (length-take n old) in
    record {
      long = long;
      lit = λ i d within. (let inside : i < min n (length old) = subst (λ k. i < k) (length-take n old) within in
          ap (λ (x : Assigned). x.lit) (get_or-take n new i d (omega arith)) ∙ alike.lit i d (omega arith) ∙ ap (λ (x : Assigned). x.lit) (sym (get_or-take n old i d (omega arith))));
      level = λ i d within. (let inside : i < min n (length old) = subst (λ k. i < k) (length-take n old) within in
          ap (λ (x : Assigned). x.level) (get_or-take n new i d (omega arith)) ∙ alike.level i d (omega arith) ∙ ap (λ (x : Assigned). x.level) (sym (get_or-take n old i d (omega arith))));
    }

-- ---- What a trail and its watches keep

pub IsOrderly-alike : (old new : List Assigned) (vars : ℕ) → AreAlike old new → IsOrderly old vars → IsOrderly new vars
IsOrderly-alike old new vars alike orderly = record {
  apart = λ i j d below within same. (let inside : j < length old = omega (arith, alike.long) in
      orderly.apart i j d below inside (ap variable_of (sym (alike.lit i d (omega arith))) ∙ same ∙ ap variable_of (alike.lit j d inside)));
  rising = λ i j d below within. (let inside : j < length old = omega (arith, alike.long) in
      let before : (get_or old i d).level ≤ (get_or old j d).level = orderly.rising i j d below inside in
      omega (arith, alike.level i d (omega arith), alike.level j d inside));
  within = λ k d within. (let inside : k < length old = omega (arith, alike.long) in
      subst (λ (l : ℕ). IsGrown vars l) (sym (alike.lit k d inside)) (orderly.within k d inside));
}

pub KeepsTogether-alike : (old new : List Assigned) (truth : List Bool) (positions : List ℕ) (vars capacity : ℕ) → AreAlike old new → KeepsTogether old truth positions vars capacity → KeepsTogether new truth positions vars capacity
KeepsTogether-alike old new truth positions vars capacity alike kept = record {
  orderly = IsOrderly-alike old new vars alike kept.orderly;
  literal_set = λ l. kept.literal_set l ∙ sym (true_in-alike old new alike l);
  positions_are = λ i d within. (let inside : i < length old = omega (arith, alike.long) in
      ap (λ (l : ℕ). get_or positions (variable_of l) 0) (alike.lit i d inside) ∙ kept.positions_are i d inside);
  set_room = kept.set_room;
  set_fits = kept.set_fits;
  positions_room = kept.positions_room;
  reserved = kept.reserved;
}

-- one entry with another reason
pub AreAlike-reason : (entries : List Assigned) (at position : ℕ) (e : Assigned) → at < length entries → e ≡ get_or entries at e → AreAlike entries (set entries at (with_reason e position))
AreAlike-reason entries at position e inside is = record {
  long = length-set entries at (with_reason e position);
  lit = λ i d within. elim (cases_eq i at) [
    | inl same ↦ ap (λ (x : Assigned). x.lit) (ap (λ k. get_or (set entries at (with_reason e position)) k d) same ∙ get_or-set_same entries at (with_reason e position) d inside)
        ∙ ap (λ (x : Assigned). x.lit) (is ∙ get_or_default entries at e d inside ∙ ap (λ k. get_or entries k d) (sym same))
    | inr ne ↦ ap (λ (x : Assigned). x.lit) (get_or-set_other entries at i (with_reason e position) d ne)
  ];
  level = λ i d within. elim (cases_eq i at) [
    | inl same ↦ ap (λ (x : Assigned). x.level) (ap (λ k. get_or (set entries at (with_reason e position)) k d) same ∙ get_or-set_same entries at (with_reason e position) d inside)
        ∙ ap (λ (x : Assigned). x.level) (is ∙ get_or_default entries at e d inside ∙ ap (λ k. get_or entries k d) (sym same))
    | inr ne ↦ ap (λ (x : Assigned). x.level) (get_or-set_other entries at i (with_reason e position) d ne)
  ];
}

-- watches owe the same under entries that are alike
IsGuarded-alike : (old new : List Assigned) (head : ℕ) (clause : List ℕ) (watch : ℕ) → AreAlike old new → IsGuarded old head clause watch → IsGuarded new head clause watch
IsGuarded-alike old new head clause watch alike guarded k d within falsified =
    let short : length (take head new) ≡ min head (length new) = length-take head new in
    let inside : k < length old = omega (arith, alike.long) in
    let taken : k < length (take head old) = omega (arith, length-take head old) in
    let here : get_or (take head new) k d ≡ get_or new k d = get_or-take head new k d (omega arith) in
    let there : get_or (take head old) k d ≡ get_or old k d = get_or-take head old k d (omega arith) in
    let lit : (get_or (take head old) k d).lit ≡ (get_or (take head new) k d).lit = ap (λ (x : Assigned). x.lit) there ∙ sym (alike.lit k d inside) ∙ ap (λ (x : Assigned). x.lit) (sym here) in
    let level : (get_or (take head old) k d).level ≡ (get_or (take head new) k d).level = ap (λ (x : Assigned). x.level) there ∙ sym (alike.level k d inside) ∙ ap (λ (x : Assigned). x.level) (sym here) in
    let was : HasTrue (true_in (up_to (get_or (take head old) k d).level old)) clause = guarded k d taken (lit ∙ falsified) in
    let low : ℕ = (get_or (take head new) k d).level in
    subst (λ (known : ℕ → Bool). HasTrue known clause) (sym (true_same (up_to low old) (up_to low new) (up_to-alike low old new alike)))
    (subst (λ (n : ℕ). HasTrue (true_in (up_to n old)) clause) level was)

pub KeepsWatches-alike : (old new : List Assigned) (head : ℕ) (clauses : List (List ℕ)) (watched : List ℕ) → AreAlike old new → KeepsWatches old head clauses watched → KeepsWatches new head clauses watched
KeepsWatches-alike old new head clauses watched alike keeps = record {
  two_each = keeps.two_each;
  holds = keeps.holds;
  differ = keeps.differ;
  guarded = λ n within longer. IsGuarded-alike old new head (clause_of clauses n) (watch_of watched n) alike (keeps.guarded n within longer);
}
