-- A clause is new to propagation where all its literals but one are false while every listed clause is settled.
use Rattle.std.proofs.Common.{◌≡◌, ℕ, ◌==◌, ◌&&◌, Bool, true, false, not, List, inl, inr, ◌∙◌, sym, subst}
use Rattle.std.specs.Prelude.{All, Contains}
use Rattle.std.specs.List.{Any}
use Rattle.std.proofs.lemmas.Bool.{cases_eq, both_ways, and_parts, eqb-true, not-true, eqb-false}
use Rattle.std.proofs.lemmas.List.Elements.{All-contains}
use Rattle.std.proofs.lemmas.List.Folds.{Any-from_list_any}
use Rattle.sat_lits.specs.Literals.{negation}
use Rattle.sat_arena.specs.Settled.{IsSettled, IsConsistent}
use Rattle.sat_arena.specs.Newness.{Propagates, begun, made, negated_but, IsNewAt}

-- the literals of a clause other than one are false
abbrev pub OthersAreFalse : (ℕ → Bool) → List ℕ → ℕ → Type 0
OthersAreFalse known clause literal = (l : ℕ) → Contains clause l → (l ≡ literal → ⊥) → known (negation l) ≡ true

-- a settled clause whose other literals are false has this one true
settled_is_true : (known : ℕ → Bool) (clause : List ℕ) (literal : ℕ) → IsSettled known clause → IsConsistent known → OthersAreFalse known clause literal → known literal ≡ true
settled_is_true known clause literal settled consistent others = elim settled [
  | inl has ↦ elim (cases_eq has.literal literal) [
    | inl same ↦ subst (λ (n : ℕ). known n ≡ true) same has.is_true
    | inr ne ↦ absurd (consistent has.literal has.is_true (others has.literal has.holds ne))
  ]
  | inr two ↦ elim (cases_eq two.first literal) [
    | inl same ↦ absurd (both_ways (known (negation two.second)) two.second_open (others two.second two.holds_second (λ e. two.differ (same ∙ sym e))))
    | inr ne ↦ absurd (both_ways (known (negation two.first)) two.first_open (others two.first two.holds_first ne))
  ]
]

-- where every clause is settled, propagation from what is known makes nothing else true
pub known_Propagates : (clauses : List (List ℕ)) (given known : ℕ → Bool) → All (IsSettled known) clauses → IsConsistent known → ((m : ℕ) → given m ≡ true → known m ≡ true) → (literal : ℕ) → Propagates clauses given literal → known literal ≡ true
known_Propagates clauses given known settled consistent true_in literal (begun l e) = true_in l e
known_Propagates clauses given known settled consistent true_in literal (made clause l in_list holds others) =
    settled_is_true known clause l (All-contains (IsSettled known) clauses clause settled in_list) consistent
    (λ m holds_m ne. known_Propagates clauses given known settled consistent true_in (negation m) (others m holds_m ne))

module _ (clauses : List (List ℕ)) (clause : List ℕ) (literal : ℕ) (known : ℕ → Bool) (settled : All (IsSettled known) clauses) (consistent : IsConsistent known) (others : OthersAreFalse known clause literal) where
  given_known : (m : ℕ) → negated_but clause literal m ≡ true → known m ≡ true
  given_known m e =
      let some : Any (λ l. (not (l == literal) && (negation l == m)) ≡ true) clause = Any-from_list_any (λ l. not (l == literal) && (negation l == m)) clause e in
      let parts = and_parts (not (some.1 == literal)) (negation some.1 == m) some.4 in
      subst (λ (n : ℕ). known n ≡ true) (eqb-true (negation some.1) m parts.1)
      (others some.1 (some.0, some.2, some.3) (λ e. eqb-false some.1 literal (not-true (some.1 == literal) parts.0) e))

  reached : (m : ℕ) → Propagates clauses (negated_but clause literal) m → known m ≡ true
  reached m p = known_Propagates clauses (negated_but clause literal) known settled consistent given_known m p

  pub IsNewAt-from_settled : Contains clause literal → known literal ≡ false → IsNewAt clauses clause literal
  IsNewAt-from_settled holds untrue = record {
    holds = holds;
    no_conflict = λ listed in_list all. elim (All-contains (IsSettled known) clauses listed settled in_list) [
      | inl has ↦ consistent has.literal has.is_true (reached (negation has.literal) (all has.literal has.holds))
      | inr two ↦ both_ways (known (negation two.first)) two.first_open (reached (negation two.first) (all two.first two.holds_first))
    ];
    not_made = λ p. both_ways (known literal) untrue (reached literal p);
  }

  -- and it is none of the listed clauses
  pub not_listed : known literal ≡ false → Contains clauses clause → ⊥
  not_listed untrue in_list = both_ways (known literal) untrue (settled_is_true known clause literal (All-contains (IsSettled known) clauses clause settled in_list) consistent others)
