-- State machines, one for each product, with one invariant that each of them is to keep.
use Rattle.std.specs.Prelude.{◌≡◌, ◌≢◌, ℕ, ◌≤◌, ◌&&◌, Bool, true, false, not, List, [], ◌∷◌, length}
use Rattle.std.specs.List.{AllByRecursion}

-- What is asked of a first state, of each state and of each step, and the invariant, in each product.
pub record Machine (S : Type 0) : Type 0 where
  pub init : ℕ → S → Bool
  pub inside : ℕ → S → Bool
  pub step : ℕ → S → S → Bool
  pub invariant : ℕ → S → Bool

-- the last of the states s, ts
abbrev pub last_of : {S : Type 0} → S → List S → S
last_of s [] = s
last_of s (t ∷ ts) = last_of t ts

-- whether each of the states s, ts is inside, and each with the next a step
abbrev pub is_path : {S : Type 0} → Machine S → ℕ → S → List S → Bool
is_path m product s [] = m.inside product s
is_path m product s (t ∷ ts) = m.inside product s && (m.step product s t && is_path m product t ts)

-- whether the states are a run: a path from a first state
abbrev pub is_run : {S : Type 0} → Machine S → ℕ → List S → Bool
is_run m product [] = false
is_run m product (s ∷ ts) = m.init product s && is_path m product s ts

-- whether the states are a run whose last one breaks the invariant
abbrev pub violates : {S : Type 0} → Machine S → ℕ → List S → Bool
violates m product [] = false
violates m product (s ∷ ts) = is_run m product (s ∷ ts) && not (m.invariant product (last_of s ts))

-- whether all but the last of the states s, ts keep the invariant
abbrev pub keeps_before_last : {S : Type 0} → Machine S → ℕ → S → List S → Bool
keeps_before_last m product s [] = true
keeps_before_last m product s (t ∷ ts) = m.invariant product s && keeps_before_last m product t ts

-- the states are pairwise different
abbrev pub AreDistinct : {S : Type 0} → List S → Type 0
AreDistinct [] = Unit {0}
AreDistinct (s ∷ ts) = AllByRecursion (λ t. s ≢ t) ts × AreDistinct ts

-- The states s, ts are stuck: a path of pairwise different states, of which the last breaks the invariant and no other does.
pub record IsStuck {S : Type 0} (m : Machine S) (product : ℕ) (s : S) (ts : List S) : Type 0 where
  pub path : is_path m product s ts ≡ true
  pub kept : keeps_before_last m product s ts ≡ true
  pub broken : m.invariant product (last_of s ts) ≡ false
  pub distinct : AreDistinct (s ∷ ts)

-- Base(n) for the products of a cube: no violating run of n states.
abbrev pub Base : {S : Type 0} → Machine S → (ℕ → Bool) → ℕ → Type 0
Base {S} m within n = (product : ℕ) (run : List S) → within product ≡ true → length run ≡ n → violates m product run ≡ false

-- Base(1) to Base(n).
abbrev pub BaseTo : {S : Type 0} → Machine S → (ℕ → Bool) → ℕ → Type 0
BaseTo {S} m within n = (product : ℕ) (run : List S) → within product ≡ true → length run ≤ n → violates m product run ≡ false

-- Step(k): no k + 1 states are stuck.
abbrev pub Step : {S : Type 0} → Machine S → (ℕ → Bool) → ℕ → Type 0
Step {S} m within k = (product : ℕ) (s : S) (ts : List S) → within product ≡ true → length ts ≡ k → IsStuck m product s ts → ⊥
