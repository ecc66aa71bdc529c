-- Which clauses stay redundant as a log goes on.
use Rattle.std.proofs.Common.{◌≡◌, ℕ, List, [], ◌∷◌, ◌++◌, Option, Some, None, arith, ◌<◌, inl, inr, length, ◌∙◌, subst}
use Rattle.std.proofs.lemmas.Bool.{cases_eq}
use Rattle.sat_lits.specs.Steps.{numbered, replaced, HoldsUnit, IsRedundant, IsRetirable}
use Rattle.sat_lits.proofs.Numbered.{numbered-append, numbered-replaced_other}

pub HoldsUnit-append : (lines more : List (Option (List ℕ))) (clause : List ℕ) → HoldsUnit lines clause → HoldsUnit (lines ++ more) clause
HoldsUnit-append lines more clause h = record {
  longer = h.longer;
  literal = h.literal;
  holds = h.holds;
  stands = (h.stands.0, numbered-append lines more h.stands.0 (Some (h.literal ∷ [])) h.stands.1);
}

-- a redundant clause stays so as lines are added
pub IsRedundant-append : (lines more : List (Option (List ℕ))) (clause : List ℕ) → IsRedundant lines clause → IsRedundant (lines ++ more) clause
IsRedundant-append lines more clause redundant = elim redundant [
  | inl unit ↦ inl (HoldsUnit-append lines more clause unit)
  | inr stands ↦ inr (stands.0, numbered-append lines more stands.0 (Some clause) stands.1)
]

-- a line that holds a unit beside other literals is no unit clause
not_unit : (lines : List (Option (List ℕ))) (n l : ℕ) → IsRetirable lines n → numbered lines n ≡ Some (Some (l ∷ [])) → ⊥
not_unit lines n l r is =
    let same : r.clause ≡ l ∷ [] = cc in
    let longer : 1 < length (l ∷ []) = subst (λ (c : List ℕ). 1 < length c) same r.subsumed.longer in
    omega arith

-- retiring a line leaves the unit clauses
pub HoldsUnit-retire : (lines : List (Option (List ℕ))) (n : ℕ) (clause : List ℕ) → IsRetirable lines n → HoldsUnit lines clause → HoldsUnit (replaced lines n None) clause
HoldsUnit-retire lines n clause r h = record {
  longer = h.longer;
  literal = h.literal;
  holds = h.holds;
  stands = (
    h.stands.0,
    numbered-replaced_other lines n h.stands.0 None (λ e. not_unit lines n h.literal r (subst (λ (m : ℕ). numbered lines m ≡ Some (Some (h.literal ∷ []))) e h.stands.1)) ∙ h.stands.1,
  );
}

-- a redundant clause stays so as a line is retired, also where it is the one
pub IsRedundant-retire : (lines : List (Option (List ℕ))) (n : ℕ) (clause : List ℕ) → IsRetirable lines n → IsRedundant lines clause → IsRedundant (replaced lines n None) clause
IsRedundant-retire lines n clause r redundant = elim redundant [
  | inl unit ↦ inl (HoldsUnit-retire lines n clause r unit)
  | inr stands ↦ elim (cases_eq stands.0 n) [
    | inl e ↦
        let here : numbered lines n ≡ Some (Some clause) = subst (λ (m : ℕ). numbered lines m ≡ Some (Some clause)) e stands.1 in
        let same : r.clause ≡ clause = cc in
        inl (HoldsUnit-retire lines n clause r (subst (HoldsUnit lines) same r.subsumed))
    | inr ne ↦ inr (stands.0, numbered-replaced_other lines n stands.0 None ne ∙ stands.1)
  ]
]
