-- Lists without duplicates.
use Rattle.std.proofs.Common.{◌≡◌, ◌≢◌, ℕ, suc, ◌<◌, ◌⊎◌, inl, inr, List, [], ◌∷◌, ◌++◌, length, map, refl, sym, ap, ◌∙◌, subst, eqb-true, arith}
use Rattle.std.specs.List.{flat_map, All, AllPairs, Contains}
use Rattle.std.proofs.lemmas.Bool.Decides.{Decides-eqb, eqb_tells}
use Rattle.std.proofs.lemmas.List.Elements.{All-cons, All-contains, All-contains_itself}
use Rattle.std.proofs.lemmas.List.Kept.{AllPairs-cons}
use Rattle.std.proofs.lemmas.Map.Made.{IsDistinct-from_AllPairs}
use Rattle.std.proofs.lemmas.Map.Steps.{length-le_from_distinct_below}
use Rattle.std.proofs.lemmas.Map.Views.{Contains-from_any}
use Rattle.smv_meaning.proofs.MemberLemmas.{In, in_of, all_in, in_map, in_either, from_flat}

-- ---- members

pub contains_in : {A : Type 0} (xs : List A) (x : A) → In x xs → Contains xs x
contains_in [] x i = absurd i
contains_in (y ∷ ys) x (inl e) = (0, omega arith, e)
contains_in (y ∷ ys) x (inr i) = let r = contains_in ys x i in (suc r.0, omega (arith, r.1), r.2)

-- ---- lists without duplicates

-- no element equals a later one
abbrev pub Apart : {A : Type 0} → List A → Type 0
Apart [] = Unit {0}
Apart (x ∷ xs) = (In x xs → ⊥) × Apart xs

-- the same by indices, and back
pub pairs_of : {A : Type 0} (xs : List A) → Apart xs → AllPairs (λ x y. x ≢ y) xs
pairs_of [] h = λ i j d lt within. absurd (omega arith)
pairs_of {A} (x ∷ xs) h =
    AllPairs-cons (λ x y. x ≢ y) x xs (λ k d within e. h.0 (subst (λ (y : A). In y xs) (sym e) (in_of xs _ (All-contains_itself xs k d within)))) (pairs_of xs h.1)

pub apart_of : {A : Type 0} (xs : List A) → AllPairs (λ x y. x ≢ y) xs → Apart xs
apart_of [] h = tt
apart_of (x ∷ xs) h =
    (λ i. all_in (λ y. x ≢ y) xs x (λ k d within. h 0 (suc k) d (omega arith) (omega arith)) i refl, apart_of xs (λ i j d lt within. h (suc i) (suc j) d (omega arith) (omega arith)))

pub apart_before : {A B : Type 0} (f : A → B) (xs : List A) → Apart (map f xs) → Apart xs
apart_before f [] h = tt
apart_before f (x ∷ xs) h = (λ i. h.0 (in_map f xs x i), apart_before f xs h.1)

-- an injective function maps only one element to a value
pub one_source : {A B : Type 0} (f : A → B) (xs : List A) (x y : A) → Apart (map f xs) → In x xs → In y xs → f x ≡ f y → x ≡ y
one_source f [] x y h i j e = absurd i
one_source f (z ∷ zs) x y h (inl a) (inl b) e = sym a ∙ b
one_source {A} {B} f (z ∷ zs) x y h (inl a) (inr j) e = absurd (h.0 (subst (λ (w : B). In w (map f zs)) (sym (ap f a ∙ e)) (in_map f zs y j)))
one_source {A} {B} f (z ∷ zs) x y h (inr i) (inl b) e = absurd (h.0 (subst (λ (w : B). In w (map f zs)) (e ∙ sym (ap f b)) (in_map f zs x i)))
one_source f (z ∷ zs) x y h (inr i) (inr j) e = one_source f zs x y h.1 i j e

joined_apart : {A : Type 0} (xs ys : List A) → Apart xs → Apart ys → ((z : A) → In z xs → In z ys → ⊥) → Apart (xs ++ ys)
joined_apart [] ys h k none = k
joined_apart (x ∷ xs) ys h k none =
    (λ i. elim (in_either xs ys x i) [ inl j ↦ h.0 j | inr j ↦ none x (inl refl) j ], joined_apart xs ys h.1 k (λ z i j. none z (inr i) j))

-- a concatenation of lists without duplicates and without common elements has no duplicates
pub flat_apart : {A B : Type 0} (f : A → List B) (xs : List A) → Apart xs → ((x : A) → Apart (f x)) → ((x y : A) (z : B) → In x xs → In y xs → In z (f x) → In z (f y) → x ≡ y) → Apart (flat_map f xs)
flat_apart f [] h each one = tt
flat_apart {A} f (x ∷ xs) h each one =
    joined_apart (f x) (flat_map f xs) (each x) (flat_apart f xs h.1 each (λ y w z i j. one y w z (inr i) (inr j)))
    (λ z i j. let r = from_flat f xs z j in h.0 (subst (λ (y : A). In y xs) (sym (one x r.0 z (inl refl) (inr r.1) i r.2)) r.1))

-- ---- numbers of elements

in_or_not : (q : ℕ) (xs : List ℕ) → In q xs ⊎ (In q xs → ⊥)
in_or_not q [] = inr (λ i. i)
in_or_not q (x ∷ xs) = elim (in_or_not q xs) [
  | inl i ↦ inl (inr i)
  | inr none ↦ elim (eqb_tells x q) [ inl e ↦ inl (inl e.1) | inr e ↦ inr (λ i. elim i [ inl same ↦ e.1 same | inr j ↦ none j ]) ]
]

-- n numbers below n without duplicates are all of them
each_in : (xs : List ℕ) (n q : ℕ) → Apart xs → All (λ k. k < n) xs → length xs ≡ n → q < n → In q xs
each_in xs n q apart below long h = elim (in_or_not q xs) [
  | inl i ↦ i
  | inr none ↦
      let all = All-cons (λ k. k < n) q xs h below in
      absurd (omega (
        arith,
        length-le_from_distinct_below (q ∷ xs) n (IsDistinct-from_AllPairs Decides-eqb (q ∷ xs) (pairs_of (q ∷ xs) (none, apart)))
            (λ k e. All-contains (λ k. k < n) (q ∷ xs) k all (Contains-from_any eqb-true k (q ∷ xs) e)),
      ))
]

-- n numbers below n with distinct elements: each number has an element of its own
pub one_each : {A : Type 0} (f : ℕ → A) (n : ℕ) (order : List ℕ) → AllPairs (λ a b. a ≢ b) (map f order) → All (λ k. k < n) order → length order ≡ n → (i j : ℕ) → i < n → j < n → f i ≡ f j → i ≡ j
one_each f n order differ below long i j within inside e =
    let apart = apart_of (map f order) differ in
    let each = apart_before f order apart in
    one_source f order i j apart (each_in order n i each below long within) (each_in order n j each below long inside) e
