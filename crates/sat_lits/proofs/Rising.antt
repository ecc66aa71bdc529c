-- What rising variables say of two literals of a clause.
use Rattle.std.proofs.Common.{◌≡◌, ℕ, List, arith, get_or, length, ◌<◌, ◌≤◌, ◌+◌, ◌-◌, zero, suc, add-zero, sym, ◌∙◌, ap, subst, inl, inr}
use Rattle.std.specs.Prelude.{slice_index}
use Rattle.std.proofs.lemmas.Bool.{cases_eq}
use Rattle.std.proofs.lemmas.List.{get_or_default}
use Rattle.sat_lits.specs.Literals.{variable_of}
use Rattle.sat_lits.specs.Clauses.{HasRisingVariables}

rises_by : (clause : List ℕ) → HasRisingVariables clause → (i d : ℕ) → i + d + 1 < length clause → variable_of (slice_index clause i) < variable_of (slice_index clause (i + d + 1))
rises_by clause rising i zero h = subst (λ (n : ℕ). variable_of (slice_index clause i) < variable_of (slice_index clause (n + 1))) (sym (add-zero i)) (rising i (omega arith))
rises_by clause rising i (suc d) h =
    let e : i + suc d ≡ i + d + 1 = omega arith in
    let before : variable_of (slice_index clause i) < variable_of (slice_index clause (i + d + 1)) = rises_by clause rising i d (omega arith) in
    let step : variable_of (slice_index clause (i + d + 1)) < variable_of (slice_index clause (i + d + 1 + 1)) = rising (i + d + 1) (omega arith) in
    rw e (omega arith)

-- the variable of a literal is below those of all later ones
pub rises : (clause : List ℕ) → HasRisingVariables clause → (i j : ℕ) → i < j → j < length clause → variable_of (slice_index clause i) < variable_of (slice_index clause j)
rises clause rising i j before within =
    let e : i + (j - i - 1) + 1 ≡ j = omega arith in
    let at : variable_of (slice_index clause i) < variable_of (slice_index clause (i + (j - i - 1) + 1)) = rises_by clause rising i (j - i - 1) (omega arith) in
    subst (λ (n : ℕ). variable_of (slice_index clause i) < variable_of (slice_index clause n)) e at

-- a literal whose variable is not above that of the one before it: the variables do not rise
pub falls : (lits : List ℕ) (i previous l : ℕ) → i < length lits → (i ≡ 0 → previous ≡ 0) → ((k : ℕ) → k + 1 ≡ i → previous ≡ variable_of (get_or lits k 0)) → l ≡ get_or lits i l → 1 ≤ variable_of l → variable_of l ≤ previous → HasRisingVariables lits → ⊥
falls lits i previous l within start last is numbered below rising = elim (cases_eq i 0) [
  | inl first ↦ (let none : previous ≡ 0 = start first in omega arith)
  | inr later ↦
      let e : (i - 1) + 1 ≡ i = omega arith in
      let before : previous ≡ variable_of (get_or lits (i - 1) 0) = last (i - 1) e in
      let bound : (i - 1) + 1 < length lits = omega arith in
      let up : variable_of (get_or lits (i - 1) 0) < variable_of (get_or lits ((i - 1) + 1) 0) = rising (i - 1) bound in
      let here : l ≡ get_or lits i 0 = is ∙ get_or_default lits i l 0 within in
      let same : get_or lits ((i - 1) + 1) 0 ≡ get_or lits i 0 = ap (λ j. get_or lits j 0) e in
      omega arith
]
