-- Numbers of features.
use Rattle.std.proofs.Common.{◌≡◌, ℕ, zero, suc, ◌+◌, ◌<◌, Bool, true, false, not, ◌||◌, cond, List, [], ◌∷◌, ◌++◌, length, length-append, Some, None, is_some, refl, ◌∙◌, ap, arith}
use Rattle.std.specs.Prelude.{nat_lt}
use Rattle.std.specs.List.{list_any, position_or_len, range_with_len}
use Rattle.std.specs.Str.{bytes_eq}
use Rattle.std.proofs.lemmas.Bool.Decides.{nat_tests}
use Rattle.std.proofs.lemmas.List.Quantifiers.{position-Some}
use Rattle.feature_model.specs.Constraints.{Name, feature_of}
use Rattle.feature_model.specs.ModelOfText.{or_root}

pub number_below : (names : List Name) (name : Name) (f : ℕ) → feature_of names name ≡ Some f → f < length names
number_below names name f e = (position-Some (λ n. bytes_eq n name) names f [] e).0

-- ---- where a name stands

stands : {X : Type 0} (p : X → Bool) (xs : List X) → list_any p xs ≡ true → position_or_len p xs < length xs
stands p [] h = let bad : false ≡ true = h in cc
stands p (x ∷ xs) h = by_first (p x) h (stands p xs) where
  by_first : (v : Bool) → (v || list_any p xs) ≡ true → (list_any p xs ≡ true → position_or_len p xs < length xs) → cond (not v) (1 + position_or_len p xs) 0 < suc (length xs)
  by_first true h next = omega arith
  by_first false h next = omega (arith, next h)

stands_still : {X : Type 0} (p : X → Bool) (xs ys : List X) → list_any p xs ≡ true → position_or_len p (xs ++ ys) ≡ position_or_len p xs
stands_still p [] ys h = let bad : false ≡ true = h in cc
stands_still p (x ∷ xs) ys h = by_first (p x) h (stands_still p xs ys) where
  by_first : (v : Bool) → (v || list_any p xs) ≡ true → (list_any p xs ≡ true → position_or_len p (xs ++ ys) ≡ position_or_len p xs) → cond (not v) (1 + position_or_len p (xs ++ ys)) 0 ≡ cond (not v) (1 + position_or_len p xs) 0
  by_first true h next = refl
  by_first false h next = ap (λ n. 1 + n) (next h)

within : (i n : ℕ) → i < n → nat_lt i n ≡ true
within i n h = grind (arith, nat_tests)

some_at : (i n : ℕ) → i < n → is_some (cond (nat_lt i n) (Some i) None) ≡ true
some_at i n h = ap (λ t. is_some (cond t (Some i) None)) (within i n h)

number_at : (i n : ℕ) → i < n → or_root (cond (nat_lt i n) (Some i) None) ≡ i
number_at i n h = ap (λ t. or_root (cond t (Some i) None)) (within i n h)

-- a name of the list has a number
pub number_known : (names : List Name) (name : Name) → list_any (λ n. bytes_eq n name) names ≡ true → is_some (feature_of names name) ≡ true
number_known names name h = some_at (position_or_len (λ n. bytes_eq n name) names) (length names) (stands (λ n. bytes_eq n name) names h)

-- a name that stands among the first ones has one of their numbers
pub number_kept : (names more : List Name) (name : Name) → list_any (λ n. bytes_eq n name) names ≡ true → or_root (feature_of (names ++ more) name) < length names
number_kept names more name h =
    let p : Name → Bool = λ n. bytes_eq n name in
    let small : position_or_len p names < length names = stands p names h in
    let same : position_or_len p (names ++ more) ≡ position_or_len p names = stands_still p names more h in
    let all : position_or_len p (names ++ more) < length (names ++ more) = omega (arith, small, same, length-append names more) in
    omega (arith, small, same, number_at (position_or_len p (names ++ more)) (length (names ++ more)) all)

-- ---- numbers in a row

range_next : (first len : ℕ) → range_with_len first len ++ (first + len) ∷ [] ≡ range_with_len first (suc len)
range_next first zero = let same : first + 0 ≡ first = omega arith in ap (λ n. n ∷ []) same
range_next first (suc len) = let same : first + suc len ≡ first + 1 + len = omega arith in ap (λ n. first ∷ (range_with_len (first + 1) len ++ n ∷ [])) same ∙ ap (λ ns. first ∷ ns) (range_next (first + 1) len)

pub range_more : (first len : ℕ) → range_with_len first len ++ (first + len) ∷ [] ≡ range_with_len first (len + 1)
range_more first len = let same : suc len ≡ len + 1 = omega arith in range_next first len ∙ ap (range_with_len first) same
