-- Circuits of And gates, and the clauses that define their gates. A literal is its code.
use Rattle.std.specs.Prelude.{◌≡◌, ◌≢◌, ℕ, ◌%◌, ◌<◌, ◌≤◌, Bool, true, false, List, [], ◌∷◌, ◌++◌, All}
use Rattle.std.specs.List.{flat_map}
use Rattle.sat_lits.specs.Literals.{negation, variable_of}

-- a gate: its two operands, the one of the lower code first, and its output
abbrev pub Gate : Type 0
Gate = (ℕ × ℕ) × ℕ

-- the operand of the lower code
abbrev pub lower : Gate → ℕ
lower gate = gate.0.0

-- the operand of the higher code
abbrev pub higher : Gate → ℕ
higher gate = gate.0.1

-- the literal that is true exactly where both operands are
abbrev pub output : Gate → ℕ
output gate = gate.1

-- A circuit: how many variables are made, numbered from 1, and the gates in the order in which they were made.
-- Variable 1 is true. Each other variable is an input or the output of a gate.
pub record Circuit : Type 0 where
  pub vars : ℕ
  pub gates : List Gate

-- the literal that is true
abbrev pub truth : ℕ
truth = 2

-- the literal that is false
abbrev pub falsity : ℕ
falsity = 3

-- the literal of a truth value
abbrev pub constant : Bool → ℕ
constant true = truth
constant false = falsity

-- the circuit of variable 1 alone
abbrev pub no_gates : Circuit
no_gates = record { vars = 1; gates = [] }

-- ---- Clauses

-- The clauses of a gate. For operands a and b and the output g they are `a -g`, `b -g` and `-a -b g`.
abbrev pub clauses_of_gate : Gate → List (List ℕ)
clauses_of_gate gate =
    (lower gate ∷ negation (output gate) ∷ [])
    ∷ (higher gate ∷ negation (output gate) ∷ [])
    ∷ (negation (lower gate) ∷ negation (higher gate) ∷ output gate ∷ [])
    ∷ []

-- the clauses of a circuit: that variable 1 is true, and then those of each gate
abbrev pub clauses_of : Circuit → List (List ℕ)
clauses_of circuit = (truth ∷ []) ∷ flat_map clauses_of_gate circuit.gates

-- ---- Variables

-- the literal's variable is made
pub record IsMade (circuit : Circuit) (l : ℕ) : Type 0 where
  pub numbered : 2 ≤ l
  pub made : variable_of l ≤ circuit.vars

-- the variable is made, and is neither variable 1 nor the output of a gate
pub record IsInput (circuit : Circuit) (variable : ℕ) : Type 0 where
  pub above : 2 ≤ variable
  pub made : variable ≤ circuit.vars
  pub no_output : All (λ gate. variable_of (output gate) ≢ variable) circuit.gates

-- ---- The order in which gates are made

-- a gate over two different variables, neither of them variable 1, whose output is a new variable above all made before
pub record IsGateAbove (made : ℕ) (gate : Gate) : Type 0 where
  pub no_constant : 2 ≤ variable_of (lower gate)
  pub apart : variable_of (lower gate) < variable_of (higher gate)
  pub above : variable_of (higher gate) < variable_of (output gate)
  pub new : made < variable_of (output gate)
  pub positive : output gate % 2 ≡ 0

-- the gates are made one after another, while the number of variables goes from one number to another
abbrev pub AreMadeInOrder : ℕ → List Gate → ℕ → Type 0
AreMadeInOrder from [] to = from ≤ to
AreMadeInOrder from (gate ∷ gates) to = IsGateAbove from gate × AreMadeInOrder (variable_of (output gate)) gates to

-- every circuit keeps this, whatever was called before
pub record IsSound (circuit : Circuit) : Type 0 where
  pub in_order : AreMadeInOrder 1 circuit.gates circuit.vars

-- the new circuit has the variables and gates of the old one, and then those made since
pub record Extends (old new : Circuit) : Type 0 where
  pub vars : old.vars ≤ new.vars
  pub since : List Gate
  pub gates : new.gates ≡ old.gates ++ since
  pub in_order : AreMadeInOrder old.vars since new.vars
