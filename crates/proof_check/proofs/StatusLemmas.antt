-- What becomes of a clause, from the positions of its literals that are not false.
use Rattle.std.proofs.Common.{◌≡◌, ℕ, Bool, true, false, List, arith, inl, inr, get_or, length, ◌<◌, ◌≤◌, ◌+◌, sym, ◌∙◌, ap, subst}
use Rattle.std.specs.Prelude.{slice_index}
use Rattle.std.proofs.lemmas.Bool.{cases_eq, both_ways, cases_order}
use Rattle.std.proofs.lemmas.List.{get_or_default}
use Rattle.std.proofs.lemmas.List.Elements.{All-from_get_or}
use Rattle.sat_lits.specs.Literals.{negation, variable_of}
use Rattle.sat_lits.specs.Clauses.{HasRisingVariables}
use Rattle.sat_lits.specs.Steps.{IsFalsified, Forces}
use Rattle.sat_lits.proofs.Rising.{rises}

module _ (known : ℕ → Bool) (clause : List ℕ) where
  -- the literal at this position is not false
  abbrev IsOpenAt : ℕ → Type 0
  IsOpenAt i = known (negation (slice_index clause i)) ≡ false

  -- a literal that is not false is the one that the clause forces
  pub forced_is : (i l : ℕ) → i < length clause → IsOpenAt i → Forces known clause l → slice_index clause i ≡ l
  forced_is i l within idle forces = elim (cases_eq (slice_index clause i) l) [
    | inl e ↦ e
    | inr ne ↦ absurd (both_ways (known (negation (slice_index clause i))) idle (forces.others i 0 within ne))
  ]

  not_falsified : (i : ℕ) → i < length clause → IsOpenAt i → IsFalsified known clause → ⊥
  not_falsified i within idle falsified = both_ways (known (negation (slice_index clause i))) idle (falsified i 0 within)

  -- a clause with a true literal is neither falsified nor forces one
  pub idle_by_true : (i x : ℕ) → i < length clause → x ≡ get_or clause i x → IsOpenAt i → known x ≡ true → (IsFalsified known clause → ⊥) × ((l : ℕ) → Forces known clause l → ⊥)
  idle_by_true i x within is idle true_in = (
    not_falsified i within idle,
    λ l forces.
        let here : x ≡ l = is ∙ get_or_default clause i x 0 within ∙ forced_is i l within idle forces in
        both_ways (known l) forces.not_true (subst (λ (n : ℕ). known n ≡ true) here true_in),
  )

  -- nor does one with two literals that are not false
  pub idle_by_two : (i j : ℕ) → i < j → j < length clause → HasRisingVariables clause → IsOpenAt i → IsOpenAt j → (IsFalsified known clause → ⊥) × ((l : ℕ) → Forces known clause l → ⊥)
  idle_by_two i j before within rising idle idle' =
      let within_i : i < length clause = omega arith in (
        not_falsified i within_i idle,
        λ l forces.
            let same : slice_index clause i ≡ slice_index clause j = forced_is i l within_i idle forces ∙ sym (forced_is j l within idle' forces) in
            let below : variable_of (slice_index clause i) < variable_of (slice_index clause j) = rises clause rising i j before within in
            let equal : variable_of (slice_index clause i) ≡ variable_of (slice_index clause j) = ap variable_of same in
            omega arith,
      )

  -- a clause whose literals but this unassigned one are false forces it
  pub forces_at : (i x : ℕ) → i < length clause → x ≡ get_or clause i x → ((k : ℕ) → k < i → known (negation (slice_index clause k)) ≡ true) → IsOpenAt i → known x ≡ false → ((k : ℕ) → i + 1 ≤ k → k < length clause → known (negation (slice_index clause k)) ≡ true) → Forces known clause x
  forces_at i x within is before idle not_true after =
      let here : x ≡ slice_index clause i = is ∙ get_or_default clause i x 0 within in
      let others : (k : ℕ) → k < length clause → (get_or clause k 0 ≡ x → ⊥) → known (negation (get_or clause k 0)) ≡ true
      = λ k within_k ne. elim (cases_order k i) [
        | inl e ↦ absurd (ne (ap (λ n. get_or clause n 0) e ∙ sym here))
        | inr order ↦ elim order [ inl below ↦ before k below | inr above ↦ after k (omega arith) within_k ]
      ] in
      record {
        holds = (i, within, sym is);
        not_true = not_true;
        not_false = subst (λ (n : ℕ). known (negation n) ≡ false) (sym here) idle;
        others = All-from_get_or (λ m. (m ≡ x → ⊥) → known (negation m) ≡ true) clause 0 others;
      }

  -- a clause forces one literal at most
  pub forced_once : (l m : ℕ) → Forces known clause l → Forces known clause m → l ≡ m
  forced_once l m f g =
      let at : slice_index clause f.holds.0 ≡ l = get_or_default clause f.holds.0 0 l f.holds.1 ∙ f.holds.2 in
      sym at ∙ forced_is f.holds.0 m f.holds.1 (subst (λ (n : ℕ). known (negation n) ≡ false) (sym at) f.not_false) g

  -- a clause that forces a literal is not falsified
  pub not_both : (l : ℕ) → Forces known clause l → IsFalsified known clause → ⊥
  not_both l f falsified =
      let at : slice_index clause f.holds.0 ≡ l = get_or_default clause f.holds.0 0 l f.holds.1 ∙ f.holds.2 in
      both_ways (known (negation l)) f.not_false (subst (λ (n : ℕ). known (negation n) ≡ true) at (falsified f.holds.0 0 f.holds.1))
