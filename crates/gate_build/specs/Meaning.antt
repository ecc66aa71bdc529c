-- What clauses and literals mean. An assignment gives each variable a truth value.
use Rattle.std.specs.Prelude.{◌≡◌, ℕ, ◌≤◌, ◌&&◌, ◌||◌, Bool, true, false, not, if◌then◌else◌, List}
use Rattle.std.specs.List.{list_all, list_any}
use Rattle.sat_lits.specs.Literals.{literal_true}
use Rattle.sat_lits.specs.Clauses.{Satisfies}
use Rattle.gate_build.specs.Circuits.{Circuit, clauses_of}

-- two assignments give each variable of a set the same value
abbrev pub AgreeOn : (ℕ → Type 0) → (ℕ → Bool) → (ℕ → Bool) → Type 0
AgreeOn variables values other = (v : ℕ) → variables v → values v ≡ other v

-- the numbers from 1 to the last
abbrev pub UpTo : ℕ → ℕ → Type 0
UpTo last v = (1 ≤ v) × (v ≤ last)

-- Each assignment of the inputs extends to one that satisfies the clauses, and to no other: two that satisfy them
-- and agree on the inputs agree on all variables up to the last.
pub record ExtendsOnce (inputs : ℕ → Type 0) (last : ℕ) (clauses : List (List ℕ)) : Type 0 where
  pub extension : (ℕ → Bool) → (ℕ → Bool)
  pub extends : (values : ℕ → Bool) → AgreeOn inputs (extension values) values
  pub satisfies : (values : ℕ → Bool) → Satisfies (extension values) clauses
  pub only :
      (values other : ℕ → Bool) → Satisfies values clauses → Satisfies other clauses
      → AgreeOn inputs values other → AgreeOn (UpTo last) values other

-- the assignment satisfies the clauses of the circuit
abbrev pub Holds : (ℕ → Bool) → Circuit → Type 0
Holds values circuit = Satisfies values (clauses_of circuit)

-- the literal has the value of the function in each assignment that satisfies the clauses of the circuit
pub record Computes (circuit : Circuit) (l : ℕ) (function : (ℕ → Bool) → Bool) : Type 0 where
  pub computes : (values : ℕ → Bool) → Holds values circuit → literal_true values l ≡ function values

-- ---- What connectives compute

-- both literals are true
abbrev pub both : ℕ → ℕ → (ℕ → Bool) → Bool
both a b values = literal_true values a && literal_true values b

-- one of two literals is true, or both
abbrev pub either : ℕ → ℕ → (ℕ → Bool) → Bool
either a b values = literal_true values a || literal_true values b

-- whether two truth values differ
abbrev pub exclusive : Bool → Bool → Bool
exclusive true b = not b
exclusive false b = b

-- two literals have different values
abbrev pub differ : ℕ → ℕ → (ℕ → Bool) → Bool
differ a b values = exclusive (literal_true values a) (literal_true values b)

-- the value of a where c is true, and otherwise that of b
abbrev pub chosen : ℕ → ℕ → ℕ → (ℕ → Bool) → Bool
chosen c a b values = if literal_true values c then literal_true values a else literal_true values b

-- each literal of a list is true
abbrev pub all_true : List ℕ → (ℕ → Bool) → Bool
all_true lits values = list_all (literal_true values) lits

-- some literal of a list is true
abbrev pub any_true : List ℕ → (ℕ → Bool) → Bool
any_true lits values = list_any (literal_true values) lits
