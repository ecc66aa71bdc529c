-- Reasons and what a propagator keeps, as clauses are taken out and others move.
use Rattle.std.proofs.Common.{◌≡◌, ℕ, suc, zero, ◌<◌, ◌≤◌, ◌+◌, ◌-◌, Bool, true, false, not, cond, List, [], ◌∷◌, Option, Some, None, length, get_or, take, arith, refl, inl, inr, ◌⊎◌, sym, ◌∙◌, ap, subst, set, length-set, get_or-set_same, get_or-set_other}
use Rattle.std.specs.Prelude.{All, Contains, filter, map, nat_lt, ◌&&◌, ◌==◌}
use Rattle.fsmv_base.specs.declared.citation.Id.TheVariants.{Axiom}
use Rattle.std.specs.List.{list_any, Any}
use Rattle.std.proofs.lemmas.Bool.{cases_eq, cases_lt, and_parts, eqb-true, both_ways}
use Rattle.std.proofs.lemmas.List.{get_or_default, length-map, get_or_past}
use Rattle.std.proofs.lemmas.List.Elements.{All-nil, All-cons, All-head, All-tail, All-contains, Contains-get_or}
use Rattle.std.proofs.lemmas.List.Folds.{Any-from_list_any}
use Rattle.sat_lits.specs.Literals.{negation}
use Rattle.sat_arena.specs.declared.trail.Assigned.{Assigned}
use Rattle.sat_arena.specs.Stored.{Stored}
use Rattle.sat_arena.specs.Trails.{true_in, up_to, with_reason, IsGrown, IsOrderly}
use Rattle.sat_arena.specs.Settled.{HasTrue}
use Rattle.sat_arena.specs.Justified.{current_level, IsEntryAt, IsReason, IsJustified}
use Rattle.sat_arena.specs.ArenaState.{ArenaState, clauses_of, among, is_satisfied, AreGrown, IsUnitOf}
use Rattle.sat_arena.specs.Watches.{KeepsWatches}
use Rattle.sat_arena.specs.Reclaimed.{moves}
use Rattle.sat_arena.specs.Moved.{IsReasonNow, HasReasonNow, IsMovedEntry, MovesEntry, AreMovedEntries, HasTarget, HaveTargets, KeepsReason}
use Rattle.sat_arena.specs.PropagatorState.{AreShortTrue, AreCurrentFrom, IsPropagator}
use Rattle.sat_arena.proofs.TrailLemmas.{consistent}
use Rattle.sat_arena.proofs.TrueInLemmas.{true_in_from_up_to, true_in_from_take}
use Rattle.sat_arena.proofs.DeducedLemmas.{clause_at}
use Rattle.sat_arena.proofs.AlikeLemmas.{AreAlike, AreAlike-tail, true_same, up_to-alike, KeepsWatches-alike}
use Rattle.sat_arena.proofs.ReclaimLemmas.{staying, length-moves, moves_stays, moves_gone}

-- ---- Clauses that stay

pub All-staying : (P : List ℕ → Type 0) (gone : Stored → Bool) (stored : List Stored) → All P (clauses_of stored) → All P (clauses_of (staying gone stored))
All-staying P gone [] all = all
All-staying P gone (s ∷ ss) all =
    let rest = All-staying P gone ss (All-tail P s.clause (clauses_of ss) all) in
    elim (gone s) as (λ b. All P (clauses_of (cond (not b) (s ∷ staying gone ss) (staying gone ss)))) [
      | true ↦ rest
      | false ↦ All-cons P s.clause (clauses_of (staying gone ss)) (All-head P s.clause (clauses_of ss) all) rest
    ]

-- a clause that stays was there before
pub was_stored : (gone : Stored → Bool) (stored : List Stored) (clause : List ℕ) → Contains (clauses_of (staying gone stored)) clause → Contains (clauses_of stored) clause
was_stored gone stored clause holds =
    All-contains (Contains (clauses_of stored)) (clauses_of (staying gone stored)) clause
    (All-staying (Contains (clauses_of stored)) gone stored (λ k d within. Contains-get_or (clauses_of stored) k d within)) holds

Contains-cons : (x : List ℕ) (xs : List (List ℕ)) (y : List ℕ) → Contains xs y → Contains (x ∷ xs) y
Contains-cons x xs y holds = (suc holds.0, omega (arith, holds.1), holds.2)

-- a clause that does not pass the test stays
pub stays : (gone : Stored → Bool) (stored : List Stored) (clause : List ℕ) → ((s : Stored) → s.clause ≡ clause → gone s ≡ false) → Contains (clauses_of stored) clause → Contains (clauses_of (staying gone stored)) clause
stays gone [] clause kept holds = absurd (omega (arith, holds.1))
stays gone (s ∷ ss) clause kept (zero, within, is) =
    subst (λ (b : Bool). Contains (clauses_of (cond (not b) (s ∷ staying gone ss) (staying gone ss))) clause) (sym (kept s is)) (0, omega arith, is)
stays gone (s ∷ ss) clause kept (suc k, within, is) =
    let rest = stays gone ss clause kept (k, omega (arith, within), is) in
    elim (gone s) as (λ b. Contains (clauses_of (cond (not b) (s ∷ staying gone ss) (staying gone ss))) clause) [
      | true ↦ rest
      | false ↦ Contains-cons s.clause (clauses_of (staying gone ss)) clause rest
    ]

-- a unit clause stays
pub unit_stays : (known : ℕ → Bool) (stored : List Stored) (l : ℕ) → Contains (clauses_of stored) (l ∷ []) → Contains (clauses_of (staying (is_satisfied known) stored)) (l ∷ [])
unit_stays known stored l holds = stays (is_satisfied known) stored (l ∷ []) (λ s is. ap (λ (c : List ℕ). nat_lt 1 (length c) && list_any known c) is) holds

-- ---- What a propagator keeps

pub current_level-alike : (old new : List Assigned) → AreAlike old new → current_level new ≡ current_level old
current_level-alike old new alike = ap (λ (ls : List ℕ). get_or ls (length new - 1) 0) (levels old new alike) ∙ ap (λ n. get_or (map (λ e. e.level) old) (n - 1) 0) alike.long
  where
    levels : (old new : List Assigned) → AreAlike old new → map (λ e. e.level) new ≡ map (λ e. e.level) old
    levels [] [] alike = refl
    levels [] (f ∷ new) alike = absurd (let long : length (f ∷ new) ≡ 0 = alike.long in omega arith)
    levels (e ∷ old) [] alike = absurd (let long : 0 ≡ length (e ∷ old) = alike.long in omega arith)
    levels (e ∷ old) (f ∷ new) alike = (let head : f.level ≡ e.level = alike.level 0 e (omega arith) in let tail : map (λ x. x.level) new ≡ map (λ x. x.level) old = levels old new (AreAlike-tail e f old new alike) in cc)

pub IsPropagator-reclaimed : (known : ℕ → Bool) (before after : ArenaState) (entries entries' : List Assigned) (vars head : ℕ) → IsPropagator before.stored before.watched before.vars entries vars head None → after.stored ≡ staying (is_satisfied known) before.stored → after.vars ≡ before.vars → KeepsWatches entries head (clauses_of after.stored) after.watched → AreAlike entries entries' → IsPropagator after.stored after.watched after.vars entries' vars head None
IsPropagator-reclaimed known before after entries entries' vars head old stored_is vars_is watches alike = record {
  room = omega (arith, old.room, vars_is);
  grown = subst (λ (ss : List Stored). AreGrown vars (clauses_of ss)) (sym stored_is) (All-staying (λ (c : List ℕ). All (IsGrown vars) c) (is_satisfied known) before.stored old.grown);
  within = omega (arith, old.within, alike.long);
  current = λ i entry at later.
      let inside : i < length entries = omega (arith, at.0, alike.long) in
      let same : (get_or entries i entry).level ≡ entry.level = sym (alike.level i entry inside) ∙ ap (λ (x : Assigned). x.level) at.1 in
      sym same ∙ old.current i (get_or entries i entry) (inside, get_or_default entries i (get_or entries i entry) entry inside) later ∙ sym (current_level-alike entries entries' alike);
  keeps = λ none. KeepsWatches-alike entries entries' head (clauses_of after.stored) after.watched alike watches;
  short = λ none i within short.
      let clause : List ℕ = get_or (clauses_of after.stored) i [] in
      let stood = was_stored (is_satisfied known) before.stored clause (subst (λ (ss : List Stored). Contains (clauses_of ss) clause) stored_is (Contains-get_or (clauses_of after.stored) i [] within)) in
      let same : get_or (clauses_of before.stored) stood.0 [] ≡ clause = get_or_default (clauses_of before.stored) stood.0 [] clause stood.1 ∙ stood.2 in
      subst (λ (k : ℕ → Bool). HasTrue k clause) (sym (true_same (up_to 0 entries) (up_to 0 entries') (up_to-alike 0 entries entries' alike)))
      (subst (λ (c : List ℕ). HasTrue (true_in (up_to 0 entries)) c) same (old.short refl stood.0 stood.1 (subst (λ (c : List ℕ). length c < 2) (sym same) short)));
  refuted_at = tt;
}

-- ---- Entries whose reasons move

alike_from_moved : (arena : ArenaState) (old new : List Assigned) → AreMovedEntries arena old new → AreAlike old new
alike_from_moved arena old new moved = record {
  long = moved.long;
  lit = λ i d within. (moved.entries i d within).lit;
  level = λ i d within. (moved.entries i d within).level;
}

pub AreAlike-moved : (arena : ArenaState) (old new : List Assigned) → AreMovedEntries arena old new → AreAlike old new
AreAlike-moved arena old new moved = alike_from_moved arena old new moved

-- a decision stays as it is
pub MovesEntry-decided : (arena : ArenaState) (at : ℕ) (entries : List Assigned) (e : Assigned) → at < length entries → e ≡ get_or entries at e → e.reason ≡ None → MovesEntry arena at entries entries
MovesEntry-decided arena at entries e within is none = record {
  long = refl;
  here = λ d. record {
    lit = refl;
    level = refl;
    reason = (let same : get_or entries at d ≡ e = get_or_default entries at d e within ∙ sym is in
        has_none (get_or entries at d).lit (get_or entries at d).reason (ap (λ (x : Assigned). x.reason) same ∙ none));
  };
  others = λ i d ne. refl;
}
  where
    has_none : (l : ℕ) (reason : Option ℕ) → reason ≡ None → HasReasonNow arena l reason reason
    has_none l reason none = subst (λ (r : Option ℕ). HasReasonNow arena l r r) (sym none) refl

pub MovesEntry-reason : (arena : ArenaState) (at : ℕ) (entries new : List Assigned) (e : Assigned) (reason position : ℕ) → at < length entries → e ≡ get_or entries at e → e.reason ≡ Some reason → IsReasonNow arena e.lit reason position → new ≡ set entries at (with_reason e position) → MovesEntry arena at entries new
MovesEntry-reason arena at entries new e reason position within is some now new_is = subst (λ (es : List Assigned). MovesEntry arena at entries es) (sym new_is) (record {
  long = length-set entries at (with_reason e position);
  here = λ d.
      let new_here : get_or (set entries at (with_reason e position)) at d ≡ with_reason e position = get_or-set_same entries at (with_reason e position) d within in
      let old_here : get_or entries at d ≡ e = get_or_default entries at d e within ∙ sym is in
      subst (λ (x : Assigned). IsMovedEntry arena x (get_or (set entries at (with_reason e position)) at d)) (sym old_here)
      (subst (λ (x : Assigned). IsMovedEntry arena e x) (sym new_here) (record {
        lit = refl;
        level = refl;
        reason = has_some e.reason some;
      }));
  others = λ i d ne. get_or-set_other entries at i (with_reason e position) d ne;
})
  where
    has_some : (r : Option ℕ) → r ≡ Some reason → HasReasonNow arena e.lit r (Some position)
    has_some r is_some = subst (λ (x : Option ℕ). HasReasonNow arena e.lit x (Some position)) (sym is_some) (position, refl, now)

-- ---- Which reasons there are

some_cases : (o : Option ℕ) → (o ≡ None) ⊎ ((n : ℕ) × (o ≡ Some n))
some_cases None = inl refl
some_cases (Some n) = inr (n, refl)

-- a reason that was taken out holds the literal of a unit clause, which is the one that it forced
pub HaveTargets-reclaimed : (root : List ℕ) (stored : List Stored) (arena : ArenaState) (entries : List Assigned) (vars : ℕ) → IsOrderly entries vars → IsJustified (clauses_of stored) entries → AreShortTrue entries (clauses_of stored) → All (λ l. Contains (clauses_of stored) (l ∷ [])) root → arena.stored ≡ staying (is_satisfied (among root)) stored → arena.moved ≡ moves (is_satisfied (among root)) 0 stored → HaveTargets arena entries
HaveTargets-reclaimed root stored arena entries vars orderly justified short units stored_is moved_is i d within position reason =
    let entry : Assigned = get_or entries i d in
    let gone : Stored → Bool = is_satisfied (among root) in
    let at : IsEntryAt entries i entry = (within, get_or_default entries i entry d within) in
    let why = justified.reasons i position entry at reason in
    let inside : position < length stored = omega (arith, why.0, length-map stored (λ s. s.clause)) in
    let long : length arena.moved ≡ length stored = ap length moved_is ∙ length-moves gone 0 stored in (
      omega arith,
      λ taken.
          let s : Stored = get_or stored position (record { clause = []; id = Axiom 0 }) in
          let out : gone s ≡ true = moves_gone gone 0 stored position (record { clause = []; id = Axiom 0 }) inside (ap (λ (ms : List (Option ℕ)). get_or ms position None) (sym moved_is) ∙ taken) in
          let parts = and_parts (nat_lt 1 (length s.clause)) (list_any (among root) s.clause) out in
          let some : Any (λ l. among root l ≡ true) s.clause = Any-from_list_any (among root) s.clause parts.1 in
          let l : ℕ = some.1 in
          let rooted : Any (λ r. (r == l) ≡ true) root = Any-from_list_any (λ r. r == l) root some.4 in
          let is_root : get_or root rooted.0 rooted.1 ≡ l = rooted.3 ∙ eqb-true rooted.1 l rooted.4 in
          let unit : Contains (clauses_of stored) (l ∷ []) = subst (λ (x : ℕ). Contains (clauses_of stored) (x ∷ [])) is_root (units rooted.0 rooted.1 rooted.2) in
          let holds : Contains (get_or (clauses_of stored) position []) l = subst (λ (c : List ℕ). Contains c l) (sym (clause_at stored position (record { clause = []; id = Axiom 0 }) inside)) (some.0, some.2, some.3) in
          let is_true : true_in entries l ≡ true = true_in_from_up_to 0 entries l (unit_true l unit) in
          let same : l ≡ entry.lit = elim (cases_eq l entry.lit) [
            | inl e ↦ e
            | inr ne ↦ absurd (consistent entries vars orderly l is_true (true_in_from_take i entries (negation l)
                (All-contains (λ (m : ℕ). (m ≡ entry.lit → ⊥) → true_in (take i entries) (negation m) ≡ true) (get_or (clauses_of stored) position []) l why.1.others holds ne)))
          ] in
          subst (λ (x : ℕ). Contains (clauses_of arena.stored) (x ∷ [])) same
          (subst (λ (ss : List Stored). Contains (clauses_of ss) (l ∷ [])) (sym stored_is) (unit_stays (among root) stored l unit)),
    )
  where
    only : (l m : ℕ) → Contains (l ∷ []) m → m ≡ l
    only l m (zero, within, is) = sym is
    only l m (suc k, within, is) = absurd (omega arith)

    unit_true : (l : ℕ) → Contains (clauses_of stored) (l ∷ []) → true_in (up_to 0 entries) l ≡ true
    unit_true l unit =
        let here : get_or (clauses_of stored) unit.0 [] ≡ l ∷ [] = get_or_default (clauses_of stored) unit.0 [] (l ∷ []) unit.1 ∙ unit.2 in
        let has : HasTrue (true_in (up_to 0 entries)) (l ∷ []) = subst (λ (c : List ℕ). HasTrue (true_in (up_to 0 entries)) c) here (short unit.0 unit.1 (subst (λ (c : List ℕ). length c < 2) (sym here) (omega arith))) in
        subst (λ (x : ℕ). true_in (up_to 0 entries) x ≡ true) (only l has.literal has.holds) has.is_true

-- ---- Reasons for those above

pub KeepsReason-moved : (gone : Stored → Bool) (stored : List Stored) (arena : ArenaState) (before after : Assigned) → arena.stored ≡ staying gone stored → arena.moved ≡ moves gone 0 stored → ((position : ℕ) → before.reason ≡ Some position → position < length stored) → IsMovedEntry arena before after → KeepsReason (clauses_of stored) (clauses_of arena.stored) before after
KeepsReason-moved gone stored arena before after stored_is moved_is inside moved = record {
  lit = moved.lit;
  level = moved.level;
  decided = λ none. subst (λ (r : Option ℕ). HasReasonNow arena before.lit r after.reason) none moved.reason;
  reason = λ position some.
      let now = subst (λ (r : Option ℕ). HasReasonNow arena before.lit r after.reason) some moved.reason in
      let within : position < length stored = inside position some in
      let long : length (clauses_of arena.stored) ≡ length arena.stored = length-map arena.stored (λ s. s.clause) in
      elim now.2 [
        | inl stays ↦
            let d : Stored = record { clause = []; id = Axiom 0 } in
            let stands = moves_stays gone 0 stored position now.0 d within (ap (λ (ms : List (Option ℕ)). get_or ms position None) (sym moved_is) ∙ stays) in
            let index : now.0 ≡ stands.index = omega (arith, stands.counted) in
            let low : now.0 < length (staying gone stored) = omega (arith, stands.within) in
            let low_here : now.0 < length arena.stored = subst (λ (ss : List Stored). now.0 < length ss) (sym stored_is) low in
            let same : get_or (clauses_of arena.stored) now.0 [] ≡ get_or (clauses_of stored) position []
            = ap (λ (ss : List Stored). get_or (clauses_of ss) now.0 []) stored_is ∙ clause_at (staying gone stored) now.0 d low ∙ ap (λ (n : ℕ). (get_or (staying gone stored) n d).clause) index ∙ ap (λ (s : Stored). s.clause) (stands.same d) ∙ sym (clause_at stored position d within) in
            (now.0, now.1, omega arith, inl same)
        | inr unit ↦ (now.0, now.1, omega (arith, unit.1), inr unit.2)
      ];
}
