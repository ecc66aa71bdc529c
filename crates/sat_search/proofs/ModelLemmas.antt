-- Where propagation has ended and all variables are assigned, all clauses are true.
use Rattle.std.proofs.Common.{◌≡◌, ◌+◌, ◌*◌, ◌≤◌, ◌%◌, ◌/◌, ℕ, Bool, true, false, not, List, inl, inr, sym, ap, subst, ◌∙◌, arith}
use Rattle.std.specs.Prelude.{All, Contains}
use Rattle.std.proofs.lemmas.Bool.{cases_eq, both_ways, cases_Bool, cond-true, cond-false, eq-eqb, ne_eqb, not_from_false}
use Rattle.std.proofs.lemmas.List.Folds.{list_any_at}
use Rattle.std.proofs.lemmas.List.Elements.{All-contains}
use Rattle.sat_lits.specs.Literals.{negation, literal, literal_true, is_positive_literal}
use Rattle.sat_lits.specs.Clauses.{clause_true}
use Rattle.sat_arena.specs.Settled.{IsSettled, IsConsistent}
use Rattle.sat_arena.specs.Trails.{IsGrown}
use Rattle.sat_search.specs.Orders.{AllAssigned}

even_half : (l : ℕ) → l % 2 ≡ 0 → 2 * (l / 2) ≡ l
even_half l e = omega arith

odd_half : (l : ℕ) → (l % 2 ≡ 0 → ⊥) → 2 * (l / 2) + 1 ≡ l
odd_half l e = omega arith

even_negation : (l : ℕ) → l % 2 ≡ 0 → 2 * (l / 2) + 1 ≡ negation l
even_negation l e = omega arith

odd_negation : (l : ℕ) → (l % 2 ≡ 0 → ⊥) → 2 * (l / 2) ≡ negation l
odd_negation l e = omega arith

module _ (known values : ℕ → Bool) (vars : ℕ) (consistent : IsConsistent known) (assigned : AllAssigned vars known) (read : (var : ℕ) → 1 ≤ var → var ≤ vars → values var ≡ known (literal var true)) where
  -- a literal that is known is true at the values
  pub literal_true-known : (l : ℕ) → IsGrown vars l → known l ≡ true → literal_true values l ≡ true
  literal_true-known l grown is_known =
      let var = l / 2 in
      let value : values var ≡ known (2 * var) = read var (omega (arith, grown.0)) grown.1 in
      elim (cases_eq (l % 2) 0) [
        | inl even ↦ cond-true (is_positive_literal l) (values var) (not (values var)) (eq-eqb (l % 2) 0 even) ∙ value ∙ ap known (even_half l even) ∙ is_known
        | inr odd ↦ cond-false (is_positive_literal l) (values var) (not (values var)) (ne_eqb (l % 2) 0 odd)
            ∙ not_from_false (values var) (value ∙ elim (cases_Bool (known (2 * var))) [
              | inl bad ↦ absurd (consistent l is_known (subst (λ (n : ℕ). known n ≡ true) (odd_negation l odd) bad))
              | inr fine ↦ fine
            ])
      ]

  -- a literal that is not false is known
  known_if_open : (l : ℕ) → IsGrown vars l → known (negation l) ≡ false → known l ≡ true
  known_if_open l grown open_there = elim (cases_eq (l % 2) 0) [
    | inl even ↦ elim (assigned (l / 2) (omega (arith, grown.0)) grown.1) [
      | inl t ↦ subst (λ (n : ℕ). known n ≡ true) (even_half l even) t
      | inr f ↦ absurd (both_ways (known (negation l)) open_there (subst (λ (n : ℕ). known n ≡ true) (even_negation l even) f))
    ]
    | inr odd ↦ elim (assigned (l / 2) (omega (arith, grown.0)) grown.1) [
      | inl t ↦ absurd (both_ways (known (negation l)) open_there (subst (λ (n : ℕ). known n ≡ true) (odd_negation l odd) t))
      | inr f ↦ subst (λ (n : ℕ). known n ≡ true) (odd_half l odd) f
    ]
  ]

  true_by : (clause : List ℕ) (l : ℕ) → Contains clause l → literal_true values l ≡ true → clause_true values clause ≡ true
  true_by clause l holds t = list_any_at (literal_true values) clause holds.0 l holds.1 (subst (λ (n : ℕ). literal_true values n ≡ true) (sym holds.2) t)

  pub clause_true-settled : (clause : List ℕ) → All (IsGrown vars) clause → IsSettled known clause → clause_true values clause ≡ true
  clause_true-settled clause grown settled = elim settled [
    | inl has ↦ true_by clause has.literal has.holds (literal_true-known has.literal (All-contains (IsGrown vars) clause has.literal grown has.holds) has.is_true)
    | inr two ↦
        (let at = All-contains (IsGrown vars) clause two.first grown two.holds_first in
        true_by clause two.first two.holds_first (literal_true-known two.first at (known_if_open two.first at two.first_open)))
  ]
