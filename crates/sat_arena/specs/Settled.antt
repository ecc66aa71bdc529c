use Rattle.std.specs.Prelude.{◌≡◌, ℕ, Bool, true, false, List, Contains, ◌⊎◌}
use Rattle.sat_lits.specs.Literals.{negation}

-- Which literals are true is given by a test. A literal is false where its negation is true.

-- a literal of the clause is true
pub record HasTrue (known : ℕ → Bool) (clause : List ℕ) : Type 0 where
  pub literal : ℕ
  pub holds : Contains clause literal
  pub is_true : known literal ≡ true

-- two literals of the clause are not false
pub record HasTwo (known : ℕ → Bool) (clause : List ℕ) : Type 0 where
  pub first : ℕ
  pub second : ℕ
  pub holds_first : Contains clause first
  pub holds_second : Contains clause second
  pub differ : first ≡ second → ⊥
  pub first_open : known (negation first) ≡ false
  pub second_open : known (negation second) ≡ false

-- unit propagation finds nothing to do at the clause
abbrev pub IsSettled : (ℕ → Bool) → List ℕ → Type 0
IsSettled known clause = HasTrue known clause ⊎ HasTwo known clause

-- no literal is true beside its negation
abbrev pub IsConsistent : (ℕ → Bool) → Type 0
IsConsistent known = (l : ℕ) → known l ≡ true → known (negation l) ≡ true → ⊥
