-- One hint of a refutation.
use Rattle.std.proofs.Common.{◌≡◌, ℕ, Bool, true, List, ◌∷◌, Option, Some, refl, inl, inr, get_or, drop, length, ◌<◌, ◌+◌, sym, ◌∙◌, subst, add-one, ◌↔◌, set, arith, All}
use Rattle.std.proofs.Math.Seq.{drop-cons}
use Rattle.fsmv_base.specs.declared.citation.Id.{Id}
use Rattle.sat_lits.specs.Steps.{IsFalsified, Forces, with, Refutes}
use Rattle.proof_check.specs.Marks.{marked}
use Rattle.proof_check.proofs.MarkLemmas.{marked-set}
use Rattle.proof_check.proofs.StatusLemmas.{forced_once, not_both}

pub drop_at : {X : Type 0} (xs : List X) (i : ℕ) (d : X) → i < length xs → drop i xs ≡ get_or xs i d ∷ drop (i + 1) xs
drop_at xs i d within = rw (add-one, drop-cons xs i d) refl

same_clause : (a b : List ℕ) → Some a ≡ Some b → a ≡ b
same_clause a b e = cc

module _ (names : Id → Option (List ℕ)) (known : ℕ → Bool) (hint : Id) (hints : List Id) (clause : List ℕ) (is : Some clause ≡ names hint) where
  -- a clause that forces a literal: the hints refute exactly where the suffix does, with the literal made true
  pub Refutes-forcing : (l : ℕ) → Forces known clause l → (Refutes names (with known l) hints ↔ Refutes names known (hint ∷ hints))
  Refutes-forcing l forces = (
    λ suffix. (clause, sym is, inr (l, forces, suffix)),
    λ (other, named, cases).
        let same : other ≡ clause = same_clause other clause (sym named ∙ sym is) in
        elim cases [
          | inl falsified ↦ absurd (not_both known clause l forces (subst (IsFalsified known) same falsified.0))
          | inr forced ↦
              let again : Forces known clause forced.0 = subst (λ (x : List ℕ). Forces known x forced.0) same forced.1 in
              subst (λ (n : ℕ). Refutes names (with known n) hints) (forced_once known clause forced.0 l again forces) forced.2
        ],
  )

  -- an idle clause refutes nothing
  pub Refutes-idle : (IsFalsified known clause → ⊥) × ((l : ℕ) → Forces known clause l → ⊥) → Refutes names known (hint ∷ hints) → ⊥
  Refutes-idle neither (other, named, cases) =
      let same : other ≡ clause = same_clause other clause (sym named ∙ sym is) in
      elim cases [
        | inl falsified ↦ neither.0 (subst (IsFalsified known) same falsified.0)
        | inr forced ↦ neither.1 forced.0 (subst (λ (x : List ℕ). Forces known x forced.0) same forced.1)
      ]

module _ (names : Id → Option (List ℕ)) (literal_set first : List Bool) (hints : List Id) (i : ℕ) (d : Id) (within : i < length hints) (clause : List ℕ) (is : Some clause ≡ names (get_or hints i d)) (so_far : Refutes names (marked literal_set) (drop i hints) ↔ Refutes names (marked first) hints) where
  -- once the forced literal was made true, the later hints decide
  pub Refutes-step : (l : ℕ) → l < length literal_set → Forces (marked literal_set) clause l → (Refutes names (marked (set literal_set l true)) (drop (i + 1) hints) ↔ Refutes names (marked first) hints)
  Refutes-step l room forces =
      let known : marked (set literal_set l true) ≡ with (marked literal_set) l = marked-set literal_set l room in
      let cut : drop i hints ≡ get_or hints i d ∷ drop (i + 1) hints = drop_at hints i d within in
      let both = Refutes-forcing names (marked literal_set) (get_or hints i d) (drop (i + 1) hints) clause is l forces in (
        λ suffix. so_far.0 (subst (Refutes names (marked literal_set)) (sym cut) (both.0 (subst (λ (k : ℕ → Bool). Refutes names k (drop (i + 1) hints)) known suffix))),
        λ whole. subst (λ (k : ℕ → Bool). Refutes names k (drop (i + 1) hints)) (sym known) (both.1 (subst (Refutes names (marked literal_set)) cut (so_far.1 whole))),
      )

  -- an idle clause ends the refutation
  pub Refutes-stops : (IsFalsified (marked literal_set) clause → ⊥) × ((l : ℕ) → Forces (marked literal_set) clause l → ⊥) → Refutes names (marked first) hints → ⊥
  Refutes-stops neither whole =
      Refutes-idle names (marked literal_set) (get_or hints i d) (drop (i + 1) hints) clause is neither
      (subst (Refutes names (marked literal_set)) (drop_at hints i d within) (so_far.1 whole))

-- a forced literal of a clause has room among the literal_set
pub forced_within : (known : ℕ → Bool) (clause : List ℕ) (l room : ℕ) → All (λ m. m + 1 < room) clause → Forces known clause l → l < room
forced_within known clause l room all forces =
    let at : get_or clause forces.holds.0 l + 1 < room = all forces.holds.0 l forces.holds.1 in
    let same : get_or clause forces.holds.0 l ≡ l = forces.holds.2 in
    omega arith
