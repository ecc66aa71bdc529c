-- The hints refute as the walk goes back by one entry.
use Rattle.std.proofs.Common.{◌≡◌, ◌⊎◌, ℕ, ◌==◌, ◌+◌, ◌<◌, Bool, true, false, List, [], ◌∷◌, ◌++◌, Some, get_or, take, arith, inl, inr, sym, ◌∙◌, ap, subst, refl}
use Rattle.std.specs.Prelude.{Contains}
use Rattle.std.proofs.lemmas.Bool.{cases_eq, eqb-true, eq-eqb, or_cases, or_left, or_right, both_ways, false_from_ne_true}
use Rattle.std.proofs.lemmas.List.{reverse-append}
use Rattle.std.proofs.lemmas.List.Elements.{All-contains, Contains-get_or, Contains-push, Contains-push_cases, Contains-append_left}
use Rattle.fsmv_base.specs.declared.citation.Id.{Id}
use Rattle.sat_lits.specs.Literals.{negation, variable_of}
use Rattle.sat_lits.specs.Steps.{named, with, Forces, Refutes}
use Rattle.sat_arena.specs.declared.trail.Assigned.{Assigned}
use Rattle.sat_arena.specs.Stored.{Stored}
use Rattle.sat_arena.specs.Trails.{true_in}
use Rattle.sat_arena.specs.Justified.{IsEntryAt, IsReason, HasPositions}
use Rattle.sat_analyze.specs.Marked.{IsMarked}
use Rattle.sat_analyze.specs.Walked.{Fits, RefutesFrom, IsLate}
use Rattle.sat_analyze.proofs.BeforeLemmas.{before_from_true_in, true_in_later, not_true_in_earlier, true_in_here, none_before, variable_of-negation}
use Rattle.sat_analyze.proofs.PositionLemmas.{one_at}
use Rattle.sat_analyze.proofs.ClauseLemmas.{negation-negation}

-- ---- An entry that is passed by

marked_below : (entries : List Assigned) (i : ℕ) (here : Assigned) (seen : List Bool) (known : ℕ → Bool) → IsEntryAt entries i here
    → ((j : ℕ) (e : Assigned) → j < i → IsEntryAt entries j e → IsMarked seen j → known e.lit ≡ true) → (IsMarked seen i → known here.lit ≡ true)
    → (j : ℕ) (e : Assigned) → j < i + 1 → IsEntryAt entries j e → IsMarked seen j → known e.lit ≡ true
marked_below entries i here seen known at below this j e low there marked = elim (cases_eq j i) [
  | inl same ↦ subst (λ (f : Assigned). known f.lit ≡ true) (one_at entries i j here e at there (sym same)) (this (subst (IsMarked seen) same marked))
  | inr differ ↦ below j e (omega arith) there marked
]

pub RefutesFrom-skip : (stored : List Stored) (entries : List Assigned) (i : ℕ) (here : Assigned) (seen : List Bool) (kept : List ℕ) (hints : List Id) → IsEntryAt entries i here → (IsMarked seen i → ⊥) → RefutesFrom stored entries (i + 1) seen kept hints → RefutesFrom stored entries i seen kept hints
RefutesFrom-skip stored entries i here seen kept hints at unmarked all = record {
  refutes = λ axioms lines known names fits. all.refutes axioms lines known names (record {
    marked = marked_below entries i here seen known at fits.marked (λ marked. absurd (unmarked marked));
    kept_known = fits.kept_known;
    within = λ m is. elim (fits.within m is) [ inl before ↦ inl (true_in_later entries i (i + 1) m (omega arith) before) | inr late ↦ inr late ];
  });
}

pub RefutesFrom-keep : (stored : List Stored) (entries : List Assigned) (i : ℕ) (here : Assigned) (seen : List Bool) (kept : List ℕ) (hints : List Id) → IsEntryAt entries i here → RefutesFrom stored entries (i + 1) seen kept hints → RefutesFrom stored entries i seen (kept ++ here.lit ∷ []) hints
RefutesFrom-keep stored entries i here seen kept hints at all = record {
  refutes = λ axioms lines known names fits. all.refutes axioms lines known names (record {
    marked = marked_below entries i here seen known at fits.marked (λ marked. fits.kept_known here.lit (Contains-push kept here.lit));
    kept_known = λ m holds. fits.kept_known m (Contains-append_left kept (here.lit ∷ []) m holds);
    within = λ m is. elim (fits.within m is) [
      | inl before ↦ inl (true_in_later entries i (i + 1) m (omega arith) before)
      | inr late ↦ elim (Contains-push_cases kept here.lit m late) [
        | inl old ↦ inr old
        | inr same ↦ inl (subst (λ (n : ℕ). true_in (take (i + 1) entries) n ≡ true) same (true_in_here entries i here at))
      ]
    ];
  });
}

pub IsLate-next : (entries : List Assigned) (i : ℕ) (kept : List ℕ) → IsLate entries (i + 1) kept → IsLate entries i kept
IsLate-next entries i kept late m holds =
    (not_true_in_earlier entries i (i + 1) m (omega arith) (late m holds).0, not_true_in_earlier entries i (i + 1) (negation m) (omega arith) (late m holds).1)

pub IsLate-keep : (entries : List Assigned) (positions : List ℕ) (i : ℕ) (here : Assigned) (kept : List ℕ) → HasPositions entries positions → IsEntryAt entries i here → IsLate entries (i + 1) kept → IsLate entries i (kept ++ here.lit ∷ [])
IsLate-keep entries positions i here kept has at late m holds = elim (Contains-push_cases kept here.lit m holds) [
  | inl old ↦ IsLate-next entries i kept late m old
  | inr same ↦ subst (λ (n : ℕ). (true_in (take i entries) n ≡ false) × (true_in (take i entries) (negation n) ≡ false)) same
      (none_before entries positions i here here.lit has at refl, none_before entries positions i here (negation here.lit) has at (variable_of-negation here.lit))
]

-- ---- An entry that is resolved

pub RefutesFrom-resolve : (stored : List Stored) (entries : List Assigned) (positions : List ℕ) (i : ℕ) (here : Assigned) (seen flags' : List Bool) (kept : List ℕ) (hints : List Id) (s : Stored)
    → HasPositions entries positions → IsEntryAt entries i here → IsLate entries (i + 1) kept → Contains stored s → IsReason (true_in (take i entries)) s.clause here.lit
    → ((j : ℕ) → IsMarked seen j → IsMarked flags' j)
    → ((l j : ℕ) (e : Assigned) → Contains s.clause l → IsEntryAt entries j e → variable_of e.lit ≡ variable_of l → IsMarked flags' j)
    → RefutesFrom stored entries (i + 1) seen kept hints → RefutesFrom stored entries i flags' kept (hints ++ s.id ∷ [])
RefutesFrom-resolve stored entries positions i here seen flags' kept hints s has at late listed why more others all = record {
  refutes = λ axioms lines known names fits.
      subst (Refutes (named axioms lines) known) (sym (reverse-append hints (s.id ∷ []))) (
        s.clause,
        All-contains (λ (t : Stored). named axioms lines t.id ≡ Some t.clause) stored s names listed,
        inr (here.lit, forces known fits, all.refutes axioms lines (with known here.lit) names (fits_with known fits)),
      );
}
  where
    -- what fits does not hold a literal that is unassigned before the position and not kept
    unknown : (known : ℕ → Bool) → Fits entries i flags' kept known → (n : ℕ) → true_in (take i entries) n ≡ false → (Contains kept n → ⊥) → known n ≡ false
    unknown known fits n none late_not = false_from_ne_true (known n) (λ is. elim (fits.within n is) [
      | inl before ↦ both_ways (true_in (take i entries) n) none before
      | inr in_kept ↦ late_not in_kept
    ])

    not_kept : (m : ℕ) → m ≡ here.lit → Contains kept m → ⊥
    not_kept m same holds = both_ways (true_in (take (i + 1) entries) m) (late m holds).0 (subst (λ (n : ℕ). true_in (take (i + 1) entries) n ≡ true) (sym same) (true_in_here entries i here at))

    not_kept_negation : Contains kept (negation here.lit) → ⊥
    not_kept_negation holds =
        both_ways (true_in (take (i + 1) entries) (negation (negation here.lit))) (late (negation here.lit) holds).1
        (subst (λ (n : ℕ). true_in (take (i + 1) entries) n ≡ true) (sym (negation-negation here.lit)) (true_in_here entries i here at))

    falsified : (known : ℕ → Bool) → Fits entries i flags' kept known → (l : ℕ) → Contains s.clause l → (l ≡ here.lit → ⊥) → known (negation l) ≡ true
    falsified known fits l holds differ =
        let early : true_in (take i entries) (negation l) ≡ true = All-contains (λ m. (m ≡ here.lit → ⊥) → true_in (take i entries) (negation m) ≡ true) s.clause l why.others holds differ in
        let before = before_from_true_in entries i (negation l) early in
        subst (λ (n : ℕ). known n ≡ true) before.of_literal
        (fits.marked before.at before.entry before.before before.stands (others l before.at before.entry holds before.stands (ap variable_of before.of_literal ∙ variable_of-negation l)))

    forces : (known : ℕ → Bool) → Fits entries i flags' kept known → Forces known s.clause here.lit
    forces known fits = record {
      holds = why.holds;
      not_true = unknown known fits here.lit (none_before entries positions i here here.lit has at refl) (not_kept here.lit refl);
      not_false = unknown known fits (negation here.lit) (none_before entries positions i here (negation here.lit) has at (variable_of-negation here.lit)) not_kept_negation;
      others = λ k d within differ. falsified known fits (get_or s.clause k d) (Contains-get_or s.clause k d within) differ;
    }

    fits_with : (known : ℕ → Bool) → Fits entries i flags' kept known → Fits entries (i + 1) seen kept (with known here.lit)
    fits_with known fits = record {
      marked = marked_below entries i here seen (with known here.lit) at
          (λ j e low there marked. or_right (e.lit == here.lit) (known e.lit) (fits.marked j e low there (more j marked)))
          (λ marked. or_left (here.lit == here.lit) (known here.lit) (eq-eqb here.lit here.lit refl));
      kept_known = λ m holds. or_right (m == here.lit) (known m) (fits.kept_known m holds);
      within = λ m is. elim (or_cases (m == here.lit) (known m) is) [
        | inl same ↦ inl (subst (λ (n : ℕ). true_in (take (i + 1) entries) n ≡ true) (sym (eqb-true m here.lit same)) (true_in_here entries i here at))
        | inr old ↦ elim (fits.within m old) [ inl before ↦ inl (true_in_later entries i (i + 1) m (omega arith) before) | inr in_kept ↦ inr in_kept ]
      ];
    }

-- ---- Where the walk begins and ends

-- a clause all of whose literals are false before the position, or against kept ones
pub RefutesFrom-begin : (stored : List Stored) (entries : List Assigned) (position : ℕ) (seen : List Bool) (kept : List ℕ) (s : Stored) → Contains stored s
    → ((l : ℕ) → Contains s.clause l → (true_in (take position entries) (negation l) ≡ true) ⊎ Contains kept (negation l))
    → ((l j : ℕ) (e : Assigned) → Contains s.clause l → IsEntryAt entries j e → variable_of e.lit ≡ variable_of l → IsMarked seen j)
    → RefutesFrom stored entries position seen kept (s.id ∷ [])
RefutesFrom-begin stored entries position seen kept s listed false_there others = record {
  refutes = λ axioms lines known names fits. (
    s.clause,
    All-contains (λ (t : Stored). named axioms lines t.id ≡ Some t.clause) stored s names listed,
    inl (
      (λ k d within.
          let l = get_or s.clause k d in
          let holds = Contains-get_or s.clause k d within in
          elim (false_there l holds) [
            | inl early ↦
                let before = before_from_true_in entries position (negation l) early in
                subst (λ (n : ℕ). known n ≡ true) before.of_literal
                (fits.marked before.at before.entry before.before before.stands (others l before.at before.entry holds before.stands (ap variable_of before.of_literal ∙ variable_of-negation l)))
            | inr in_kept ↦ fits.kept_known (negation l) in_kept
          ]),
      refl,
    ),
  );
}
