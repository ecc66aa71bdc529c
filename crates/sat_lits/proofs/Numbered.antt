-- Items by their numbers, as lists grow and change.
use Rattle.std.proofs.Common.{◌≡◌, ℕ, List, map, [], ◌∷◌, ◌++◌, Some, None, arith, refl, ◌<◌, ◌≤◌, ◌+◌, ◌-◌, ◌⊎◌, inl, inr, length, set, slice_get, ap, zero, suc, add-one}
use Rattle.std.proofs.lemmas.Option.{slice_get_within}
use Rattle.sat_lits.specs.Steps.{numbered, replaced}

pub numbered-nil : {X : Type 0} (n : ℕ) → numbered {X = X} [] n ≡ None
numbered-nil zero = refl
numbered-nil (suc i) = refl

-- the number of an item is from 1 and at most the length
pub numbered_within : {X : Type 0} (xs : List X) (n : ℕ) (x : X) → numbered xs n ≡ Some x → (1 ≤ n) × (n ≤ length xs)
numbered_within xs zero x e = cc
numbered_within xs (suc i) x e = (let within : i < length xs = slice_get_within xs i x e in (omega arith, omega arith))

pub slice_get-append : {X : Type 0} (xs ys : List X) (i : ℕ) (x : X) → slice_get xs i ≡ Some x → slice_get (xs ++ ys) i ≡ Some x
slice_get-append [] ys i x e = cc
slice_get-append (y ∷ xs) ys zero x e = e
slice_get-append (y ∷ xs) ys (suc i) x e = slice_get-append xs ys i x e

-- items stay where they are as the list grows
pub numbered-append : {X : Type 0} (xs ys : List X) (n : ℕ) (x : X) → numbered xs n ≡ Some x → numbered (xs ++ ys) n ≡ Some x
numbered-append xs ys zero x e = cc
numbered-append xs ys (suc i) x e = slice_get-append xs ys i x e

pub slice_get-last : {X : Type 0} (xs : List X) (x : X) → slice_get (xs ++ x ∷ []) (length xs) ≡ Some x
slice_get-last [] x = refl
slice_get-last (y ∷ xs) x = slice_get-last xs x

-- a new item has the next number
pub numbered-last : {X : Type 0} (xs : List X) (x : X) → numbered (xs ++ x ∷ []) (length xs + 1) ≡ Some x
numbered-last xs x = rw add-one (slice_get-last xs x)

pub slice_get-push : {X : Type 0} (xs : List X) (y x : X) (i : ℕ) → slice_get (xs ++ y ∷ []) i ≡ Some x → (slice_get xs i ≡ Some x) ⊎ ((i ≡ length xs) × (y ≡ x))
slice_get-push [] y x zero e = inr (refl, cc)
slice_get-push [] y x (suc i) e = absurd (cc)
slice_get-push (z ∷ xs) y x zero e = inl e
slice_get-push (z ∷ xs) y x (suc i) e = elim (slice_get-push xs y x i e) [ inl old ↦ inl old | inr new ↦ inr (ap suc new.0, new.1) ]

-- an item of the grown list is an old one or the new one
pub numbered-push : {X : Type 0} (xs : List X) (y x : X) (n : ℕ) → numbered (xs ++ y ∷ []) n ≡ Some x → (numbered xs n ≡ Some x) ⊎ ((n ≡ length xs + 1) × (y ≡ x))
numbered-push xs y x zero e = inl e
numbered-push xs y x (suc i) e = elim (slice_get-push xs y x i e) [ inl old ↦ inl old | inr new ↦ inr (rw add-one (ap suc new.0), new.1) ]

pub slice_get-set_same : {X : Type 0} (xs : List X) (i : ℕ) (y x : X) → slice_get xs i ≡ Some y → slice_get (set xs i x) i ≡ Some x
slice_get-set_same [] i y x e = cc
slice_get-set_same (z ∷ xs) zero y x e = refl
slice_get-set_same (z ∷ xs) (suc i) y x e = slice_get-set_same xs i y x e

pub slice_get-set_other : {X : Type 0} (xs : List X) (i j : ℕ) (x : X) → (j ≡ i → ⊥) → slice_get (set xs i x) j ≡ slice_get xs j
slice_get-set_other [] i j x ne = refl
slice_get-set_other (z ∷ xs) zero zero x ne = absurd (ne refl)
slice_get-set_other (z ∷ xs) zero (suc j) x ne = refl
slice_get-set_other (z ∷ xs) (suc i) zero x ne = refl
slice_get-set_other (z ∷ xs) (suc i) (suc j) x ne = slice_get-set_other xs i j x (λ e. ne (ap suc e))

-- the new item stands at its number
pub numbered-replaced_same : {X : Type 0} (xs : List X) (n : ℕ) (y x : X) → numbered xs n ≡ Some y → numbered (replaced xs n x) n ≡ Some x
numbered-replaced_same xs zero y x e = cc
numbered-replaced_same xs (suc i) y x e = slice_get-set_same xs i y x e

slice_get-set_none : {X : Type 0} (xs : List X) (i : ℕ) (x : X) → slice_get xs i ≡ None → slice_get (set xs i x) i ≡ None
slice_get-set_none [] i x e = e
slice_get-set_none (z ∷ xs) zero x e = cc
slice_get-set_none (z ∷ xs) (suc i) x e = slice_get-set_none xs i x e

-- where no item has the number, none has it afterwards
pub numbered-replaced_none : {X : Type 0} (xs : List X) (n : ℕ) (x : X) → numbered xs n ≡ None → numbered (replaced xs n x) n ≡ None
numbered-replaced_none xs zero x e = e
numbered-replaced_none xs (suc i) x e = slice_get-set_none xs i x e

-- the other items stay
pub numbered-replaced_other : {X : Type 0} (xs : List X) (n m : ℕ) (x : X) → (m ≡ n → ⊥) → numbered (replaced xs n x) m ≡ numbered xs m
numbered-replaced_other xs zero m x ne = refl
numbered-replaced_other xs (suc i) zero x ne = refl
numbered-replaced_other xs (suc i) (suc j) x ne = slice_get-set_other xs i j x (λ e. ne (ap suc e))

-- numbers are positions counted from 1
pub numbered-position : {X : Type 0} (xs : List X) (n : ℕ) → 1 ≤ n → numbered xs n ≡ slice_get xs (n - 1)
numbered-position xs zero positive = absurd (omega arith)
numbered-position xs (suc i) positive = (let e : suc i - 1 ≡ i = omega arith in rw e refl)

pub replaced-position : {X : Type 0} (xs : List X) (n : ℕ) (x : X) → 1 ≤ n → replaced xs n x ≡ set xs (n - 1) x
replaced-position xs zero x positive = absurd (omega arith)
replaced-position xs (suc i) x positive = (let e : suc i - 1 ≡ i = omega arith in rw e refl)

-- an item of a mapped list comes from one at the same position
pub slice_get-map_from : {X Y : Type 0} (f : X → Y) (xs : List X) (i : ℕ) (y : Y) → slice_get (map f xs) i ≡ Some y → (x : X) × (slice_get xs i ≡ Some x) × (f x ≡ y)
slice_get-map_from f [] i y e = cc
slice_get-map_from f (x ∷ xs) zero y e = (x, refl, cc)
slice_get-map_from f (x ∷ xs) (suc i) y e = slice_get-map_from f xs i y e

-- functions that agree on the items map them to the same
pub map_same : {X Y : Type 0} (f g : X → Y) (xs : List X) → ((i : ℕ) (x : X) → slice_get xs i ≡ Some x → f x ≡ g x) → map f xs ≡ map g xs
map_same f g [] same = refl
map_same f g (x ∷ xs) same =
    let head : f x ≡ g x = same zero x refl in
    let tail : map f xs ≡ map g xs = map_same f g xs (λ i y e. same (suc i) y e) in
    cc
