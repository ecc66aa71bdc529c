-- Least fixed points: what a step makes known of keys from what is known of keys, after any number of rounds. A key whose
-- value is made from itself alone has none.
use Rattle.std.specs.Prelude.{◌≡◌, ℕ, zero, suc, ◌^◌, List, Option, Some, None, slice_get, sum_by}
use Rattle.std.specs.Option.{option_flatten}

-- what the first knows, the second knows
abbrev pub Under : {K A : Type 0} → (K → Option A) → (K → Option A) → Type 0
Under {K} {A} s t = (k : K) (a : A) → s k ≡ Some a → t k ≡ Some a

-- what is made of more is more
abbrev pub IsMonotone : {K A : Type 0} → ((K → Option A) → K → Option A) → Type 0
IsMonotone {K} {A} step = (s t : K → Option A) → Under s t → Under (step s) (step t)

-- more rounds than any table in memory has entries
unfoldable pub most : ℕ
most = 2 ^ 64

module _ {K A : Type 0} (step : (K → Option A) → K → Option A) where
  -- what is known after so many rounds
  abbrev pub known : ℕ → K → Option A
  known zero k = None
  known (suc rounds) k = step (known rounds) k

  -- what is known in the end
  abbrev pub fixpoint : K → Option A
  fixpoint k = known most k

-- ---- comparing two

-- what the first knows of the keys in D, the second knows
abbrev pub UnderOn : {K A : Type 0} → (K → Type 0) → (K → Option A) → (K → Option A) → Type 0
UnderOn {K} {A} D s t = (k : K) → D k → (a : A) → s k ≡ Some a → t k ≡ Some a

-- what the first knows of a key, the second knows of each related key, up to a relation of values
abbrev pub Simulates : {K L A B : Type 0} → (K → L → Type 0) → (A → B → Type 0) → (K → Option A)
    → (L → Option B) → Type 0
Simulates {K} {L} {A} {B} R V s t = (k : K) (l : L) → R k l → (a : A) → s k ≡ Some a → (b : B)
    × (t l ≡ Some b) × V a b

-- each known value has a property
abbrev pub Satisfies : {K A : Type 0} → (K → A → Type 0) → (K → Option A) → Type 0
Satisfies {K} {A} Q s = (k : K) (a : A) → s k ≡ Some a → Q k a

-- ---- tables over the numbers below a count

-- the value that a table has at a number
abbrev pub entry : {A : Type 0} → List (Option A) → ℕ → Option A
entry table k = option_flatten (slice_get table k)

-- one where there is a value
abbrev pub one : {A : Type 0} → Option A → ℕ
one None = 0
one (Some a) = 1

-- the number of known entries
abbrev pub filled : {A : Type 0} → List (Option A) → ℕ
filled table = sum_by one table

-- each known entry is known after as many rounds as there are known entries
abbrev pub IsSoundTable : {A : Type 0} → ((ℕ → Option A) → ℕ → Option A) → List (Option A) → Type 0
IsSoundTable step table = Under (entry table) (known step (filled table))

-- the step adds nothing at a number
abbrev pub IsClosed : {A : Type 0} → ((ℕ → Option A) → ℕ → Option A) → List (Option A) → ℕ → Type 0
IsClosed {A} step table k = (a : A) → step (entry table) k ≡ Some a → entry table k ≡ Some a
