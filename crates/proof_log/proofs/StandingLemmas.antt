-- The first unit clause of a literal of a retired line.
use Rattle.std.proofs.Common.{◌≡◌, ℕ, ◌<◌, ◌≤◌, ◌+◌, List, [], ◌∷◌, ◌++◌, Option, Some, None, length, get_or, take, min, arith, refl, sym, ◌∙◌, ap, subst, inl, inr, ◌⊎◌, slice_get}
use Rattle.std.specs.Prelude.{Contains}
use Rattle.std.proofs.lemmas.Bool.{cases_eq, cases_lt}
use Rattle.std.proofs.lemmas.List.{length_push, get_or_push, get_or_append_left, get_or_default}
use Rattle.sat_lits.specs.Steps.{numbered, HoldsUnit}
use Rattle.sat_lits.specs.Table.{number_of, Indexes}
use Rattle.proof_log.specs.Standing.{IsFirstUnitLine, StandsFor, lesser, IsFirstUnit}

-- ---- One literal more

-- a literal of the longer list is one of before, or the new one
push_cases : (lits : List ℕ) (l k : ℕ) → k < length (lits ++ l ∷ []) → ((k < length lits) × (get_or (lits ++ l ∷ []) k 0 ≡ get_or lits k 0)) ⊎ ((k ≡ length lits) × (get_or (lits ++ l ∷ []) k 0 ≡ l))
push_cases lits l k within = elim (cases_eq k (length lits)) [
  | inl last ↦ inr (last, get_or_push lits l 0 k (sym last))
  | inr before ↦ (let inside : k < length lits = omega (arith, length_push lits l) in inl (inside, get_or_append_left lits (l ∷ []) 0 k inside))
]

module _ (table : List (List ℕ × ℕ)) (lits : List ℕ) (l : ℕ) where
  abbrev more : List ℕ
  more = lits ++ l ∷ []

  old_at : (k : ℕ) → k < length lits → get_or more k 0 ≡ get_or lits k 0
  old_at k within = get_or_append_left lits (l ∷ []) 0 k within

  new_at : get_or more (length lits) 0 ≡ l
  new_at = get_or_push lits l 0 (length lits) refl

  none_more : ((k : ℕ) → k < length lits → number_of table (get_or lits k 0 ∷ []) ≡ None) → number_of table (l ∷ []) ≡ None → (k : ℕ) → k < length more → number_of table (get_or more k 0 ∷ []) ≡ None
  none_more old new k within = elim (push_cases lits l k within) [
    | inl before ↦ ap (λ (x : ℕ). number_of table (x ∷ [])) before.1 ∙ old k before.0
    | inr last ↦ ap (λ (x : ℕ). number_of table (x ∷ [])) last.1 ∙ new
  ]

  -- numbers of the longer list are no less than the least of before and the new one
  least_more : (least : ℕ) → ((k n : ℕ) → k < length lits → number_of table (get_or lits k 0 ∷ []) ≡ Some n → least ≤ n) → ((n : ℕ) → number_of table (l ∷ []) ≡ Some n → least ≤ n) → (k n : ℕ) → k < length more → number_of table (get_or more k 0 ∷ []) ≡ Some n → least ≤ n
  least_more least old new k n within is = elim (push_cases lits l k within) [
    | inl before ↦ old k n before.0 (sym (ap (λ (x : ℕ). number_of table (x ∷ [])) before.1) ∙ is)
    | inr last ↦ new n (sym (ap (λ (x : ℕ). number_of table (x ∷ [])) last.1) ∙ is)
  ]

  found_before : (number : ℕ) → (k : ℕ) × (k < length lits) × (number_of table (get_or lits k 0 ∷ []) ≡ Some number) → (k : ℕ) × (k < length more) × (number_of table (get_or more k 0 ∷ []) ≡ Some number)
  found_before number found = (found.0, omega (arith, found.1, length_push lits l), ap (λ (x : ℕ). number_of table (x ∷ [])) (old_at found.0 found.1) ∙ found.2)

  found_last : (number : ℕ) → number_of table (l ∷ []) ≡ Some number → (k : ℕ) × (k < length more) × (number_of table (get_or more k 0 ∷ []) ≡ Some number)
  found_last number is = (length lits, omega (arith, length_push lits l), ap (λ (x : ℕ). number_of table (x ∷ [])) new_at ∙ is)

  some_same : (a b : ℕ) → Some a ≡ Some b → a ≡ b
  some_same a b e = cc

  pub IsFirstUnit-push : (first new : Option ℕ) → number_of table (l ∷ []) ≡ new → IsFirstUnit table lits first → IsFirstUnit table more (lesser first new)
  IsFirstUnit-push None None is old = none_more old is
  IsFirstUnit-push None (Some number) is old = (
    found_last number is,
    least_more number (λ k n within e. absurd (let none : number_of table (get_or lits k 0 ∷ []) ≡ None = old k within in cc)) (λ n e. omega (arith, some_same number n (sym is ∙ e))),
  )
  IsFirstUnit-push (Some number) None is old = (
    found_before number old.0,
    least_more number old.1 (λ n e. absurd (cc)),
  )
  IsFirstUnit-push (Some a) (Some b) is old = elim (cases_lt b a) [
    | inr le ↦ (let least : min a b ≡ a = omega arith in subst (λ (n : ℕ). IsFirstUnit table more (Some n)) (sym least) (
      found_before a old.0,
      least_more a old.1 (λ n e. omega (arith, le, some_same b n (sym is ∙ e))),
    ))
    | inl lt ↦ (let least : min a b ≡ b = omega arith in subst (λ (n : ℕ). IsFirstUnit table more (Some n)) (sym least) (
      found_last b is,
      least_more b (λ k n within e. (let low : a ≤ n = old.1 k n within e in omega arith)) (λ n e. omega (arith, some_same b n (sym is ∙ e))),
    ))
  ]

-- ---- The line

-- the least number of a table that indexes the lines names the first unit clause
pub StandsFor-first : (table : List (List ℕ × ℕ)) (lines : List (Option (List ℕ))) (clause : List ℕ) (first : Option ℕ) (id : ℕ) → Indexes table lines → HoldsUnit lines clause → IsFirstUnit table clause first → (number : ℕ) × (first ≡ Some number) × IsFirstUnitLine lines clause number
StandsFor-first table lines clause None id index unit none =
    let named : number_of table (unit.literal ∷ []) ≡ Some unit.stands.0 = index.finds (unit.literal ∷ []) unit.stands.0 unit.stands.1 in
    let at : get_or clause unit.holds.0 0 ≡ unit.literal = get_or_default clause unit.holds.0 0 unit.literal unit.holds.1 ∙ unit.holds.2 in
    let absent : number_of table (unit.literal ∷ []) ≡ None = ap (λ (x : ℕ). number_of table (x ∷ [])) (sym at) ∙ none unit.holds.0 unit.holds.1 in
    absurd (cc)
StandsFor-first table lines clause (Some number) id index unit (found, least) = (
  number,
  refl,
  record {
    literal = get_or clause found.0 0;
    holds = (found.0, found.1, get_or_default clause found.0 (get_or clause found.0 0) 0 found.1);
    stands = index.stands (get_or clause found.0 0 ∷ []) number found.2;
    first = λ n l holds stands.
        let at : get_or clause holds.0 0 ≡ l = get_or_default clause holds.0 0 l holds.1 ∙ holds.2 in
        least holds.0 n holds.1 (ap (λ (x : ℕ). number_of table (x ∷ [])) at ∙ index.finds (l ∷ []) n stands);
  },
)
