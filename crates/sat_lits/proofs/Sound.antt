-- What is right follows.
use Rattle.std.proofs.Common.{◌≡◌, ℕ, Bool, true, false, List, [], ◌∷◌, ◌++◌, inl, inr, get_or, ◌==◌, sym, ◌∙◌, ap, subst, Option, Some, None, option_and_then, zero, suc, arith, length-append}
use Rattle.std.specs.List.{Any}
use Rattle.std.proofs.lemmas.Bool.{cases_eq, both_ways, or_cases, eqb-true, cases_Bool, not_from_true, not_from_false}
use Rattle.std.proofs.lemmas.List.Folds.{Any-from_list_any, list_any_at}
use Rattle.std.proofs.lemmas.List.{get_or_default}
use Rattle.std.proofs.Math.ListN.{get_or-append}
use Rattle.std.proofs.lemmas.Option.{get_or_from_slice_get, slice_get_within}
use Rattle.fsmv_base.specs.declared.citation.Id.{Id}
use Rattle.fsmv_base.specs.declared.citation.Id.TheVariants.{Axiom, Derived}
use Rattle.sat_lits.specs.Literals.{negation, literal_true}
use Rattle.sat_lits.specs.Clauses.{clause_true, Satisfies, Follows}
use Rattle.sat_lits.specs.Steps.{numbered, named, with, negated, Refutes, IsRupStep, LinesFollow}
use Rattle.sat_lits.proofs.Numbered.{numbered-append}
use Rattle.sat_lits.proofs.Truth.{literal_true-negation}

-- each literal that was made true is true under the values
abbrev AreTrue : (ℕ → Bool) → (ℕ → Bool) → Type 0
AreTrue values known = (l : ℕ) → known l ≡ true → literal_true values l ≡ true

-- a true literal's negation was not made true
not_negated : (values known : ℕ → Bool) (l : ℕ) → AreTrue values known → literal_true values l ≡ true → known (negation l) ≡ true → ⊥
not_negated values known l trues is_true is_false =
    both_ways (literal_true values (negation l)) (literal_true-negation values l ∙ not_from_true (literal_true values l) is_true) (trues (negation l) is_false)

AreTrue-with : (values known : ℕ → Bool) (l : ℕ) → AreTrue values known → literal_true values l ≡ true → AreTrue values (with known l)
AreTrue-with values known l trues is_true m true_in = elim (or_cases (m == l) (known m) true_in) [
  | inl e ↦ (let same : m ≡ l = eqb-true m l e in rw same is_true)
  | inr before ↦ trues m before
]

-- where all named clauses are true, hints refute nothing that is true
pub Refutes-none : (names : Id → Option (List ℕ)) (values : ℕ → Bool) → ((hint : Id) (clause : List ℕ) → names hint ≡ Some clause → clause_true values clause ≡ true) → (hints : List Id) (known : ℕ → Bool) → AreTrue values known → Refutes names known hints → ⊥
Refutes-none names values hold [] known trues refuted = refuted
Refutes-none names values hold (hint ∷ hints) known trues (clause, is, cases) =
    let some : Any (λ l. literal_true values l ≡ true) clause = Any-from_list_any (literal_true values) clause (hold hint clause is) in
    let at : get_or clause some.0 0 ≡ some.1 = get_or_default clause some.0 0 some.1 some.2 ∙ some.3 in
    elim cases [
      | inl falsified ↦ not_negated values known some.1 trues some.4 (subst (λ (l : ℕ). known (negation l) ≡ true) at (falsified.0 some.0 0 some.2))
      | inr forced ↦ elim (cases_eq some.1 forced.0) [
        | inl same ↦ Refutes-none names values hold hints (with known forced.0) (AreTrue-with values known forced.0 trues (subst (λ (l : ℕ). literal_true values l ≡ true) same some.4)) forced.2
        | inr ne ↦ not_negated values known some.1 trues some.4
            (subst (λ (l : ℕ). known (negation l) ≡ true) at (forced.1.others some.0 0 some.2 (subst (λ (l : ℕ). l ≡ forced.0 → ⊥) (sym at) ne)))
      ]
    ]

-- what is negated is true where the clause is false
AreTrue-negated : (values : ℕ → Bool) (clause : List ℕ) → clause_true values clause ≡ false → AreTrue values (negated clause)
AreTrue-negated values clause is_false l true_in =
    let some : Any (λ m. (negation m == l) ≡ true) clause = Any-from_list_any (λ m. negation m == l) clause true_in in
    let same : negation some.1 ≡ l = eqb-true (negation some.1) l some.4 in
    let literal_false : literal_true values some.1 ≡ false = elim (cases_Bool (literal_true values some.1)) [
      | inl true_in_true ↦ absurd (both_ways (clause_true values clause) is_false (list_any_at (literal_true values) clause some.0 some.1 some.2 (subst (λ (m : ℕ). literal_true values m ≡ true) (sym some.3) true_in_true)))
      | inr none ↦ none
    ] in
    subst (λ (m : ℕ). literal_true values m ≡ true) same (literal_true-negation values some.1 ∙ not_from_false (literal_true values some.1) literal_false)

-- an id that names a clause names a line that stands
pub live_line : (line : Option (Option (List ℕ))) (clause : List ℕ) → option_and_then (λ l. l) line ≡ Some clause → line ≡ Some (Some clause)
live_line None clause e = cc
live_line (Some line) clause e = ap Some e

-- each clause that an id names is true where the axioms are
pub named_true : (axioms : List (List ℕ)) (lines : List (Option (List ℕ))) (values : ℕ → Bool) → LinesFollow axioms lines → Satisfies values axioms → (id : Id) (clause : List ℕ) → named axioms lines id ≡ Some clause → clause_true values clause ≡ true
named_true axioms lines values follow satisfied (Axiom zero) clause e = cc
named_true axioms lines values follow satisfied (Axiom (suc i)) clause e =
    subst (λ (x : List ℕ). clause_true values x ≡ true) (get_or_from_slice_get axioms i clause [] e) (satisfied i [] (slice_get_within axioms i clause e))
named_true axioms lines values follow satisfied (Derived n) clause e = follow n clause (live_line (numbered lines n) clause e) values satisfied

-- the clause of a right step follows from the axioms, where the lines do
pub Follows-from_rup_step : (axioms : List (List ℕ)) (lines : List (Option (List ℕ))) (clause : List ℕ) (hints : List Id) → LinesFollow axioms lines → IsRupStep axioms lines clause hints → Follows axioms clause
Follows-from_rup_step axioms lines clause hints follow right values satisfied = elim (cases_Bool (clause_true values clause)) [
  | inl is_true ↦ is_true
  | inr is_false ↦ absurd (Refutes-none (named axioms lines) values (named_true axioms lines values follow satisfied) hints (negated clause) (AreTrue-negated values clause is_false) right)
]

-- more names refute no less
pub Refutes-names : (names names' : Id → Option (List ℕ)) → ((id : Id) (clause : List ℕ) → names id ≡ Some clause → names' id ≡ Some clause) → (hints : List Id) (known : ℕ → Bool) → Refutes names known hints → Refutes names' known hints
Refutes-names names names' more [] known refuted = refuted
Refutes-names names names' more (hint ∷ hints) known (clause, is, cases) = (
  clause,
  more hint clause is,
  elim cases [
    | inl falsified ↦ inl falsified
    | inr forced ↦ inr (forced.0, forced.1, Refutes-names names names' more hints (with known forced.0) forced.2)
  ],
)

-- more axioms name no less
pub named-append : (axioms more : List (List ℕ)) (lines : List (Option (List ℕ))) (id : Id) (clause : List ℕ) → named axioms lines id ≡ Some clause → named (axioms ++ more) lines id ≡ Some clause
named-append axioms more lines (Axiom n) clause is = numbered-append axioms more n clause is
named-append axioms more lines (Derived n) clause is = is

-- what follows from clauses follows from more of them
pub Follows-append : (axioms more : List (List ℕ)) (clause : List ℕ) → Follows axioms clause → Follows (axioms ++ more) clause
Follows-append axioms more clause follows values satisfied =
    follows values (λ k d within. subst (λ (c : List ℕ). clause_true values c ≡ true) (get_or-append axioms more d k within) (satisfied k d (omega (arith, length-append axioms more))))
