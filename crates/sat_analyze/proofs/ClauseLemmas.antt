-- Literals of distinct variables, negated and sorted.
use Rattle.std.proofs.Common.{◌≡◌, ◌≢◌, ℕ, ◌==◌, ◌+◌, ◌<◌, ◌≤◌, List, [], ◌∷◌, ◌++◌, length, map, take, drop, set, get_or, arith, sym, ◌∙◌, ap, subst, refl}
use Rattle.std.proofs.lemmas.Bool.Decides.{Decides-eqb, nat_tests}
use Rattle.std.specs.List.{AllPairs}
use Rattle.std.specs.List.Sorted.{IsPermutation, IsNonDecreasing}
use Rattle.std.proofs.lemmas.List.{length-map, get_or-map, length-take-le, take_all, drop_all, append-nil, drop_more, take_more, get_or_at, set_at, append_assoc, map-append}
use Rattle.std.proofs.lemmas.List.Sorted.{IsPermutation-map}
use Rattle.std.proofs.lemmas.Map.Keys.{IsDistinct-IsPermutation}
use Rattle.std.proofs.lemmas.Map.Made.{AllPairs-from_IsDistinct, IsDistinct-from_AllPairs}
use Rattle.sat_lits.specs.Literals.{negation, variable_of}
use Rattle.sat_lits.specs.Clauses.{HasRisingVariables}
use Rattle.sat_analyze.specs.Walked.{HaveOwnVariables}

abbrev IsOther : ℕ → ℕ → Type 0
IsOther v w = v ≢ w

variable_of-negation : (l : ℕ) → variable_of (negation l) ≡ variable_of l
variable_of-negation l = omega arith

pub negation-negation : (l : ℕ) → negation (negation l) ≡ l
negation-negation l = omega arith

variables_of-negations : (lits : List ℕ) → map variable_of (map negation lits) ≡ map variable_of lits
variables_of-negations [] = refl
variables_of-negations (l ∷ ls) = ap (λ v. v ∷ map variable_of (map negation ls)) (variable_of-negation l) ∙ ap (λ vs. variable_of l ∷ vs) (variables_of-negations ls)

eqb-flips : (x y : ℕ) → (x == y) ≡ (y == x)
eqb-flips x y = grind (arith, nat_tests)

-- the negations have variables of their own, in whatever order
pub own_negations : (kept ys : List ℕ) → HaveOwnVariables kept → IsPermutation (map negation kept) ys → HaveOwnVariables ys
own_negations kept ys own moved =
    AllPairs-from_IsDistinct Decides-eqb (map variable_of ys)
    (IsDistinct-IsPermutation (λ x y. x == y) eqb-flips (map variable_of (map negation kept)) (map variable_of ys)
    (IsPermutation-map variable_of (map negation kept) ys moved)
    (IsDistinct-from_AllPairs Decides-eqb (map variable_of (map negation kept))
    (subst (λ (vs : List ℕ). AllPairs IsOther vs) (sym (variables_of-negations kept)) own)))

pub rising_lits : (ys : List ℕ) → HaveOwnVariables ys → IsNonDecreasing ys → HasRisingVariables ys
rising_lits ys own sorted k within =
    let long : length (map variable_of ys) ≡ length ys = length-map ys variable_of in
    let apart : get_or (map variable_of ys) k 0 ≢ get_or (map variable_of ys) (k + 1) 0 = own k (k + 1) 0 (omega arith) (omega arith) in
    let first : get_or (map variable_of ys) k 0 ≡ variable_of (get_or ys k 0) = get_or-map variable_of ys k 0 0 (omega arith) in
    let second : get_or (map variable_of ys) (k + 1) 0 ≡ variable_of (get_or ys (k + 1) 0) = get_or-map variable_of ys (k + 1) 0 0 within in
    let order : get_or ys k 0 ≤ get_or ys (k + 1) 0 = sorted k (k + 1) 0 (omega arith) within in
    omega arith

-- one more literal is negated in its position
pub negated_more : (lits xs : List ℕ) (k x d : ℕ) → k < length lits → xs ≡ map negation (take k lits) ++ drop k lits → x ≡ negation (get_or xs k d) → set xs k x ≡ map negation (take (k + 1) lits) ++ drop (k + 1) lits
negated_more lits xs k x d within is new =
    let here = get_or lits k d in
    let split : xs ≡ map negation (take k lits) ++ here ∷ drop (k + 1) lits = is ∙ ap (λ ls. map negation (take k lits) ++ ls) (drop_more lits k d within) in
    let prefix : length (map negation (take k lits)) ≡ k = length-map (take k lits) negation ∙ length-take-le k lits (omega arith) in
    let old : get_or xs k d ≡ here = ap (λ ls. get_or ls k d) split ∙ get_or_at (map negation (take k lits)) here (drop (k + 1) lits) d k prefix in
    ap (λ ls. set ls k x) split
    ∙ set_at (map negation (take k lits)) here (drop (k + 1) lits) x k prefix
    ∙ ap (λ l. map negation (take k lits) ++ l ∷ drop (k + 1) lits) (new ∙ ap negation old)
    ∙ sym (append_assoc (map negation (take k lits)) (negation here ∷ []) (drop (k + 1) lits))
    ∙ ap (λ ls. ls ++ drop (k + 1) lits) (sym (map-append negation (take k lits) (here ∷ [])) ∙ ap (λ ls. map negation ls) (sym (take_more lits k d within)))

pub all_negated : (lits xs : List ℕ) (k : ℕ) → length lits ≤ k → xs ≡ map negation (take k lits) ++ drop k lits → xs ≡ map negation lits
all_negated lits xs k all is =
    is ∙ ap (λ ls. map negation ls ++ drop k lits) (take_all k lits all) ∙ ap (λ ls. map negation lits ++ ls) (drop_all k lits all) ∙ append-nil (map negation lits)
