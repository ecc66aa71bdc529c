-- A clause that was learnt from a conflict is new, and keeps what the search keeps.
use Rattle.std.proofs.Common.{◌≡◌, ◌<◌, ◌≤◌, ◌-◌, ◌==◌, ℕ, List, [], ◌∷◌, ◌++◌, Bool, true, false, cond, arith, subst, sym, ap, ◌∙◌, refl, inl, inr, get_or, zero, suc}
use Rattle.std.specs.Prelude.{All, Contains}
use Rattle.std.specs.List.{AllPairs}
use Rattle.std.proofs.lemmas.Bool.{cases_Bool, cases_order, cases_lt, le-leb, lt-leb, or_cases, eqb-true, false≢true}
use Rattle.std.proofs.lemmas.List.{get_or_default}
use Rattle.std.proofs.lemmas.List.Elements.{All-contains, Contains-get_or}
use Rattle.sat_lits.specs.Literals.{negation, variable_of}
use Rattle.sat_lits.specs.Steps.{IsFalsified}
use Rattle.sat_arena.specs.declared.trail.Assigned.{Assigned}
use Rattle.sat_arena.specs.Settled.{IsSettled, IsConsistent, HasTwo}
use Rattle.sat_arena.specs.Trails.{true_in, up_to, IsOrderly, IsGrown}
use Rattle.sat_arena.specs.Newness.{IsNew}
use Rattle.sat_arena.specs.Justified.{current_level, IsTrueAt}
use Rattle.sat_arena.proofs.TrailLemmas.{consistent, HaveTwoVariables}
use Rattle.sat_arena.proofs.NewnessLemmas.{OthersAreFalse, IsNewAt-from_settled, not_listed}
use Rattle.sat_arena.proofs.JustifiedLemmas.{IsJustified-add}
use Rattle.sat_analyze.specs.Learnt.{Asserts}
use Rattle.sat_search.specs.Solvers.{IsCovered, IsReady}
use Rattle.sat_search.proofs.KeepsLemmas.{only}
use Rattle.sat_arena.proofs.LevelLaws.{current_level_is_greatest, IsSettledBelow-add}
use Rattle.sat_arena.proofs.TrueInLemmas.{true_in_or_later, true_in_from_up_to}

-- ---- At which level a literal became true

-- two entries of one literal are one
same_entry : (entries : List Assigned) → AllPairs HaveTwoVariables entries → (e f : Assigned) → Contains entries e → Contains entries f → e.lit ≡ f.lit → e ≡ f
same_entry entries apart e f at_e at_f same =
    let second : get_or entries at_f.0 e ≡ f = get_or_default entries at_f.0 e f at_f.1 ∙ at_f.2 in
    let lits : (get_or entries at_e.0 e).lit ≡ (get_or entries at_f.0 e).lit = ap (λ (x : Assigned). x.lit) at_e.2 ∙ same ∙ sym (ap (λ (x : Assigned). x.lit) second) in
    elim (cases_order at_e.0 at_f.0) [
      | inl equal ↦ sym at_e.2 ∙ ap (λ k. get_or entries k e) equal ∙ second
      | inr order ↦ elim order [
        | inl below ↦ absurd (apart at_e.0 at_f.0 e below at_f.1 (ap variable_of lits))
        | inr above ↦ absurd (apart at_f.0 at_e.0 e above at_e.1 (sym (ap variable_of lits)))
      ]
    ]

-- an entry of a literal that was true up to a level
abbrev IsEarly : ℕ → List Assigned → ℕ → Type 0
IsEarly k entries l = (e : Assigned) × Contains entries e × (e.lit ≡ l) × (e.level ≤ k)

IsEarly-cons : (k : ℕ) (e : Assigned) (es : List Assigned) (l : ℕ) → IsEarly k es l → IsEarly k (e ∷ es) l
IsEarly-cons k e es l early = (early.0, (suc early.1.0, omega (arith, early.1.1), early.1.2), early.2, early.3)

early_entry : (k : ℕ) (entries : List Assigned) (l : ℕ) → true_in (up_to k entries) l ≡ true → IsEarly k entries l
early_entry k [] l p = absurd (false≢true p)
early_entry k (e ∷ es) l p = elim (cases_lt k e.level) [
  | inl above ↦ IsEarly-cons k e es l (early_entry k es l (sym (ap (λ b. true_in (cond b (e ∷ up_to k es) (up_to k es)) l) (lt-leb e.level k above)) ∙ p))
  | inr low ↦ elim (or_cases (e.lit == l) (true_in (up_to k es) l) (sym (ap (λ b. true_in (cond b (e ∷ up_to k es) (up_to k es)) l) (le-leb e.level k low)) ∙ p)) [
    | inl here ↦ (e, (0, omega arith, refl), eqb-true e.lit l here, low)
    | inr there ↦ IsEarly-cons k e es l (early_entry k es l there)
  ]
]

-- a literal is not true before its level
pub not_yet : (entries : List Assigned) (vars l level k : ℕ) → IsOrderly entries vars → IsTrueAt entries l level → k < level → true_in (up_to k entries) l ≡ false
not_yet entries vars l level k orderly here below = elim (cases_Bool (true_in (up_to k entries) l)) [
  | inl true_there ↦ absurd (
      let early = early_entry k entries l true_there in
      let same : early.0 ≡ here.entry = same_entry entries orderly.apart early.0 here.entry early.1 here.stands (early.2 ∙ sym here.of_literal) in
      let level_is : early.0.level ≡ level = ap (λ (x : Assigned). x.level) same ∙ here.at_level in
      omega (arith, early.3))
  | inr false_there ↦ false_there
]

-- a literal that is true or false is of one of the variables
pub grown_if_true : (entries : List Assigned) (vars l : ℕ) → IsOrderly entries vars → true_in entries l ≡ true → IsGrown vars l
grown_if_true entries vars l orderly p = elim (true_in_or_later 0 entries l p) [
  | inl root ↦ (let early = early_entry 0 entries l root in
      subst (IsGrown vars) early.2 (All-contains (λ (e : Assigned). IsGrown vars e.lit) entries early.0 orderly.within early.1))
  | inr later ↦ subst (IsGrown vars) later.2 (All-contains (λ (e : Assigned). IsGrown vars e.lit) entries later.0 orderly.within later.1)
]

pub grown_negation : (vars l : ℕ) → IsGrown vars (negation l) → IsGrown vars l
grown_negation vars l grown = (omega (arith, grown.0), (let same : variable_of (negation l) ≡ variable_of l = omega arith in omega (arith, grown.1)))

pub grown_if_false : (entries : List Assigned) (vars : ℕ) (clause : List ℕ) → IsOrderly entries vars → IsFalsified (true_in entries) clause → All (IsGrown vars) clause
grown_if_false entries vars clause orderly false_there k d within =
    grown_negation vars (get_or clause k d) (grown_if_true entries vars (negation (get_or clause k d)) orderly (false_there k d within))

-- where the clauses are settled, so is each that they cover
covered_settled : (known : ℕ → Bool) (clauses : List (List ℕ)) (clause : List ℕ) → All (IsSettled known) clauses → IsCovered clauses clause → IsSettled known clause
covered_settled known clauses clause settled covered = elim covered [
  | inl listed ↦ All-contains (IsSettled known) clauses clause settled listed
  | inr unit ↦ elim (All-contains (IsSettled known) clauses (unit.0 ∷ []) settled unit.2) [
    | inl has ↦ inl (record { literal = unit.0; holds = unit.1; is_true = subst (λ (m : ℕ). known m ≡ true) (only unit.0 has.literal has.holds) has.is_true })
    | inr two ↦ absurd (two.differ (only unit.0 two.first two.holds_first ∙ sym (only unit.0 two.second two.holds_second)))
  ]
]

-- ---- The learnt clause

module _ (clauses : List (List ℕ)) (entries : List Assigned) (vars : ℕ) (ready : IsReady clauses entries vars) (above : 0 < current_level entries) (clause : List ℕ) (level : ℕ) (falsified : IsFalsified (true_in entries) clause) (asserts : Asserts entries clause level) where
  -- what was true at the end of the level before the current_level
  abbrev lower : ℕ → Bool
  lower = true_in (up_to (current_level entries - 1) entries)

  false_literal : (l : ℕ) → Contains clause l → true_in entries (negation l) ≡ true
  false_literal l holds = All-contains (λ m. true_in entries (negation m) ≡ true) clause l falsified holds

  lower_consistent : IsConsistent lower
  lower_consistent l p q = consistent entries vars ready.orderly l (true_in_from_up_to (current_level entries - 1) entries l p) (true_in_from_up_to (current_level entries - 1) entries (negation l) q)

  lower_settled : All (IsSettled lower) clauses
  lower_settled = ready.settled (current_level entries - 1) (omega arith)

  lower_others : OthersAreFalse lower clause asserts.literal
  lower_others m holds other = elim (true_in_or_later (current_level entries - 1) entries (negation m) (false_literal m holds)) [
    | inl before ↦ before
    | inr later ↦ absurd (other (asserts.alone m holds (record {
      entry = later.0;
      stands = later.1;
      of_literal = later.2;
      at_level = (let low : later.0.level ≤ current_level entries = All-contains (λ (e : Assigned). e.level ≤ current_level entries) entries later.0 (current_level_is_greatest entries ready.orderly.rising) later.1 in omega (arith, later.3));
    })))
  ]

  lower_open : lower asserts.literal ≡ false
  lower_open = elim (cases_Bool (lower asserts.literal)) [
    | inl true_there ↦ absurd (consistent entries vars ready.orderly asserts.literal (true_in_from_up_to (current_level entries - 1) entries asserts.literal true_there) (false_literal asserts.literal asserts.holds))
    | inr false_there ↦ false_there
  ]

  -- it is new to propagation over all clauses that are covered
  pub learnt_is_new : (listed : List (List ℕ)) → ((c : List ℕ) → Contains listed c → IsCovered clauses c) → IsNew listed clause
  learnt_is_new listed covered = (
    asserts.literal,
    IsNewAt-from_settled listed clause asserts.literal lower
        (λ k d within. covered_settled lower clauses (get_or listed k d) lower_settled (covered (get_or listed k d) (Contains-get_or listed k d within)))
        lower_consistent lower_others asserts.holds lower_open,
  )

  learnt_is_not_listed : Contains clauses clause → ⊥
  learnt_is_not_listed listed = not_listed clauses clause asserts.literal lower lower_settled lower_consistent lower_others lower_open listed

  -- it holds no literal that stands as a unit clause
  pub learnt_has_no_unit : (l : ℕ) → Contains clauses (l ∷ []) → Contains clause l → ⊥
  learnt_has_no_unit l unit holds = elim (All-contains (IsSettled lower) clauses (l ∷ []) lower_settled unit) [
    | inl has ↦
        (let same : has.literal ≡ l = only l has.literal has.holds in
        consistent entries vars ready.orderly l (true_in_from_up_to (current_level entries - 1) entries l (subst (λ n. lower n ≡ true) same has.is_true)) (false_literal l holds))
    | inr two ↦ two.differ (only l two.first two.holds_first ∙ sym (only l two.second two.holds_second))
  ]

  pub learnt_is_not_covered : IsCovered clauses clause → ⊥
  learnt_is_not_covered covered = elim covered [
    | inl listed ↦ learnt_is_not_listed listed
    | inr unit ↦ learnt_has_no_unit unit.0 unit.2 unit.1
  ]

  -- below the level to which the search goes back, two of its literals are not false
  pub learnt_has_two : (k : ℕ) → k < level → HasTwo (true_in (up_to k entries)) clause
  learnt_has_two k below =
      let other = asserts.back.reached (omega arith) in
      record {
        first = asserts.literal;
        second = other.0;
        holds_first = asserts.holds;
        holds_second = other.1;
        differ = λ same. other.2 (sym same);
        first_open = not_yet entries vars (negation asserts.literal) (current_level entries) k ready.orderly asserts.at_current (omega (arith, asserts.below));
        second_open = not_yet entries vars (negation other.0) level k ready.orderly other.3 below;
      }

-- ---- One more clause

pub IsReady-add : (clauses : List (List ℕ)) (entries : List Assigned) (vars : ℕ) (clause : List ℕ) → IsReady clauses entries vars → ((k : ℕ) → k < current_level entries → HasTwo (true_in (up_to k entries)) clause) → IsReady (clauses ++ clause ∷ []) entries vars
IsReady-add clauses entries vars clause ready two = record {
  orderly = ready.orderly;
  justified = IsJustified-add clauses (clause ∷ []) entries ready.justified;
  settled = IsSettledBelow-add (current_level entries) entries clauses clause two ready.settled;
}
