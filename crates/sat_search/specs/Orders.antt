-- Which variable is decided next.
use Rattle.std.specs.Prelude.{◌≡◌, ℕ, ◌≤◌, ◌<◌, ◌^◌, Bool, false, true, List, length, All, ◌⊎◌}
use Rattle.sat_lits.specs.Literals.{literal, negation}
use Rattle.sat_arena.specs.Trails.{IsGrown}

-- the literal is of one of the variables, and neither true nor false
pub record IsOpen (known : ℕ → Bool) (vars : ℕ) (lit : ℕ) : Type 0 where
  pub grown : IsGrown vars lit
  pub not_true : known lit ≡ false
  pub not_false : known (negation lit) ≡ false

-- each of the variables is true or false
abbrev pub AllAssigned : ℕ → (ℕ → Bool) → Type 0
AllAssigned vars known = (var : ℕ) → 1 ≤ var → var ≤ vars → (known (literal var true) ≡ true)
    ⊎ (known (literal var false) ≡ true)

-- every number is one of a row, of so many
abbrev pub AreRows : ℕ → List ℕ → Type 0
AreRows rows numbers = All (λ row. row < rows) numbers

-- each table of an order has a row for each variable, and its heap holds rows alone
pub record IsOrder (slots positions activities : List ℕ) (phases : List Bool) (count vars : ℕ) : Type 0 where
  pub small : vars < 2 ^ 30
  pub slots_room : length slots ≡ vars
  pub positions_room : vars ≤ length positions
  pub activities_room : vars ≤ length activities
  pub phases_room : vars ≤ length phases
  pub filled : count ≤ length slots
  pub within : AreRows vars slots
