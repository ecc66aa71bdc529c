-- What the prefix of a trail makes true.
use Rattle.std.proofs.Common.{◌≡◌, ◌==◌, ◌||◌, ◌<◌, ℕ, Bool, true, List, [], ◌∷◌, ◌++◌, cond, take, drop, arith, sym, ap, ◌∙◌, refl, inl, inr, ◌⊎◌, suc}
use Rattle.std.specs.Prelude.{Contains}
use Rattle.std.proofs.lemmas.Bool.{le-leb, lt-leb, cases_lt, or_cases, or_right, eqb-true, eq-eqb, false≢true}
use Rattle.std.proofs.lemmas.List.{take-append-drop}
use Rattle.std.proofs.lemmas.List.Folds.{list_any-append}
use Rattle.sat_arena.specs.declared.trail.Assigned.{Assigned}
use Rattle.sat_arena.specs.Trails.{true_in, up_to}
use Rattle.sat_arena.specs.Deduced.{Deduces, nothing, one_more}
use Rattle.sat_arena.proofs.TrailLemmas.{true_in-push}

or_left : (a b : Bool) → a ≡ true → (a || b) ≡ true
or_left a b e = ap (λ x. x || b) e

-- an entry became true after a level
abbrev pub IsLater : ℕ → List Assigned → ℕ → Type 0
IsLater k entries l = (e : Assigned) × Contains entries e × (e.lit ≡ l) × (k < e.level)

IsLater-cons : (k : ℕ) (e : Assigned) (es : List Assigned) (l : ℕ) → IsLater k es l → IsLater k (e ∷ es) l
IsLater-cons k e es l later = (later.0, (suc later.1.0, omega (arith, later.1.1), later.1.2), later.2, later.3)

-- what is true was true up to the level, or became so later
pub true_in_or_later : (k : ℕ) (entries : List Assigned) (l : ℕ) → true_in entries l ≡ true → (true_in (up_to k entries) l ≡ true) ⊎ IsLater k entries l
true_in_or_later k [] l p = absurd (false≢true p)
true_in_or_later k (e ∷ es) l p = elim (cases_lt k e.level) [
  | inl above ↦ elim (or_cases (e.lit == l) (true_in es l) p) [
    | inl here ↦ inr (e, (0, omega arith, refl), eqb-true e.lit l here, above)
    | inr there ↦ elim (true_in_or_later k es l there) [
      | inl before ↦ inl (ap (λ b. true_in (cond b (e ∷ up_to k es) (up_to k es)) l) (lt-leb e.level k above) ∙ before)
      | inr later ↦ inr (IsLater-cons k e es l later)
    ]
  ]
  | inr low ↦ elim (or_cases (e.lit == l) (true_in es l) p) [
    | inl here ↦ inl (ap (λ b. true_in (cond b (e ∷ up_to k es) (up_to k es)) l) (le-leb e.level k low) ∙ or_left (e.lit == l) (true_in (up_to k es) l) here)
    | inr there ↦ elim (true_in_or_later k es l there) [
      | inl before ↦ inl (ap (λ b. true_in (cond b (e ∷ up_to k es) (up_to k es)) l) (le-leb e.level k low) ∙ or_right (e.lit == l) (true_in (up_to k es) l) before)
      | inr later ↦ inr (IsLater-cons k e es l later)
    ]
  ]
]

pub true_in_from_up_to : (k : ℕ) (entries : List Assigned) (l : ℕ) → true_in (up_to k entries) l ≡ true → true_in entries l ≡ true
true_in_from_up_to k [] l p = p
true_in_from_up_to k (e ∷ es) l p = elim (cases_lt k e.level) [
  | inl above ↦ or_right (e.lit == l) (true_in es l) (true_in_from_up_to k es l (sym (ap (λ b. true_in (cond b (e ∷ up_to k es) (up_to k es)) l) (lt-leb e.level k above)) ∙ p))
  | inr low ↦ elim (or_cases (e.lit == l) (true_in (up_to k es) l) (sym (ap (λ b. true_in (cond b (e ∷ up_to k es) (up_to k es)) l) (le-leb e.level k low)) ∙ p)) [
    | inl here ↦ or_left (e.lit == l) (true_in es l) here
    | inr there ↦ or_right (e.lit == l) (true_in es l) (true_in_from_up_to k es l there)
  ]
]

-- the entries at the prefix, and those that stay
pub true_in_from_take : (n : ℕ) (entries : List Assigned) (l : ℕ) → true_in (take n entries) l ≡ true → true_in entries l ≡ true
true_in_from_take n entries l p =
    sym (ap (λ es. true_in es l) (take-append-drop n entries)
    ∙ refl) ∙ list_any-append (λ e. e.lit == l) (take n entries) (drop n entries) ∙ or_left (true_in (take n entries) l) (true_in (drop n entries) l) p

pub true_in_push : (entries : List Assigned) (entry : Assigned) (l : ℕ) → true_in entries l ≡ true → true_in (entries ++ entry ∷ []) l ≡ true
true_in_push entries entry l p = true_in-push entries entry l ∙ or_left (true_in entries l) (entry.lit == l) p

pub true_in_last : (entries : List Assigned) (entry : Assigned) → true_in (entries ++ entry ∷ []) entry.lit ≡ true
true_in_last entries entry = true_in-push entries entry entry.lit ∙ or_right (true_in entries entry.lit) (entry.lit == entry.lit) (eq-eqb entry.lit entry.lit refl)

pub true_in_deduced : (clauses : List (List ℕ)) (level : ℕ) (before after : List Assigned) → Deduces clauses level before after → (l : ℕ) → true_in before l ≡ true → true_in after l ≡ true
true_in_deduced clauses level before after nothing l p = p
true_in_deduced clauses level before after (one_more entries entry position deduced at reason within forces) l p =
    true_in_push entries entry l (true_in_deduced clauses level before entries deduced l p)
