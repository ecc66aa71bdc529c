-- Clauses that are settled, from the positions of their literals.
use Rattle.std.proofs.Common.{◌≡◌, ◌≢◌, ℕ, Bool, false, List, arith, inl, inr, get_or, length, ◌<◌, sym, ◌∙◌, ap}
use Rattle.std.proofs.lemmas.Bool.{cases_order}
use Rattle.std.proofs.lemmas.List.{get_or_default}
use Rattle.sat_lits.specs.Literals.{negation, variable_of}
use Rattle.sat_lits.specs.Clauses.{HasRisingVariables}
use Rattle.sat_lits.proofs.Rising.{rises}
use Rattle.sat_arena.specs.Settled.{IsSettled}

-- two positions of a clause have two literals
pub two_literals : (lits : List ℕ) → HasRisingVariables lits → (i j : ℕ) → i < length lits → j < length lits → i ≢ j → get_or lits i 0 ≡ get_or lits j 0 → ⊥
two_literals lits rising i j within_i within_j ne same = elim (cases_order i j) [
  | inl e ↦ ne e
  | inr order ↦ elim order [
    | inl below ↦ (let up : variable_of (get_or lits i 0) < variable_of (get_or lits j 0) = rises lits rising i j below within_j in
        let level : variable_of (get_or lits i 0) ≡ variable_of (get_or lits j 0) = ap variable_of same in omega arith)
    | inr above ↦ (let up : variable_of (get_or lits j 0) < variable_of (get_or lits i 0) = rises lits rising j i above within_i in
        let level : variable_of (get_or lits i 0) ≡ variable_of (get_or lits j 0) = ap variable_of same in omega arith)
  ]
]

-- a clause with two literals that are not false
pub settled_by_two : (known : ℕ → Bool) (lits : List ℕ) → HasRisingVariables lits → (i j : ℕ) → i < length lits → j < length lits → i ≢ j → known (negation (get_or lits i 0)) ≡ false → known (negation (get_or lits j 0)) ≡ false → IsSettled known lits
settled_by_two known lits rising i j within_i within_j ne p q = inr (record {
  first = get_or lits i 0;
  second = get_or lits j 0;
  holds_first = (i, within_i, get_or_default lits i (get_or lits i 0) 0 within_i);
  holds_second = (j, within_j, get_or_default lits j (get_or lits j 0) 0 within_j);
  differ = two_literals lits rising i j within_i within_j ne;
  first_open = p;
  second_open = q;
})

-- a literal whose negation was found not to be true
pub open_at : (known : ℕ → Bool) (lits : List ℕ) (i x n : ℕ) (r : Bool) → i < length lits → x ≡ get_or lits i x → r ≡ false → r ≡ known n → n ≡ negation x → known (negation (get_or lits i 0)) ≡ false
open_at known lits i x n r within is untrue asked turned =
    ap (λ y. known (negation y)) (sym (is ∙ get_or_default lits i x 0 within)) ∙ ap known (sym turned) ∙ sym asked ∙ untrue
