-- Which literal each call answers, and the circuit after it. So the numbers of all variables, and the clauses in
-- their order, depend on the calls alone.
use Rattle.std.specs.Prelude.{◌≡◌, ℕ, ◌+◌, ◌*◌, ◌==◌, ◌||◌, ◌&&◌, Bool, if◌then◌else◌, nat_lt, List, [], ◌∷◌, ◌++◌, Option, None, Some}
use Rattle.std.specs.Map.{lookup}
use Rattle.sat_lits.specs.Literals.{negation}
use Rattle.gate_build.specs.Circuits.{Circuit, truth, falsity}

-- a new variable
unfoldable pub input_of : Circuit → ℕ × Circuit
input_of circuit = (2 * (circuit.vars + 1), record { vars = circuit.vars + 1; gates = circuit.gates })

-- ---- Conjunctions

abbrev pub pair_eq : ℕ × ℕ → ℕ × ℕ → Bool
pair_eq p q = p.0 == q.0 && p.1 == q.1

-- two literals, the one of the lower code first
abbrev pub sorted_pair : ℕ → ℕ → ℕ × ℕ
sorted_pair a b = if nat_lt a b then (a, b) else (b, a)

-- The conjunction of two literals where it needs no gate: false where one is false or they are opposite, the other
-- where one is true, and the first where they are equal.
unfoldable pub simplified : ℕ → ℕ → Option ℕ
simplified a b =
    if a == falsity || b == falsity || a == negation b then Some falsity
    else if a == truth then Some b
    else if b == truth || a == b then Some a
    else None

-- the output of the gate of two operands, where there is one
abbrev pub gate_of : Circuit → ℕ × ℕ → Option ℕ
gate_of circuit operands = lookup (pair_eq operands) circuit.gates

-- the circuit with a gate of these operands, whose output is a new variable
abbrev pub with_gate : Circuit → ℕ × ℕ → Circuit
with_gate circuit operands =
    record { vars = circuit.vars + 1; gates = circuit.gates ++ (operands, 2 * (circuit.vars + 1)) ∷ [] }

-- the output that was found, and otherwise that of a new gate
abbrev pub found_or_new : Circuit → ℕ × ℕ → Option ℕ → ℕ × Circuit
found_or_new circuit operands (Some l) = (l, circuit)
found_or_new circuit operands None = (2 * (circuit.vars + 1), with_gate circuit operands)

-- the output of the gate of two operands, which is made where there is none
abbrev pub output_of : Circuit → ℕ × ℕ → ℕ × Circuit
output_of circuit operands = found_or_new circuit operands (gate_of circuit operands)

-- the literal that needs no gate, and otherwise the output of the gate of two operands
abbrev pub simple_or_gate : Circuit → ℕ × ℕ → Option ℕ → ℕ × Circuit
simple_or_gate circuit operands (Some l) = (l, circuit)
simple_or_gate circuit operands None = output_of circuit operands

-- the conjunction of two literals
unfoldable pub and_of : ℕ → ℕ → Circuit → ℕ × Circuit
and_of a b circuit = simple_or_gate circuit (sorted_pair a b) (simplified a b)

-- asked again, in either order, the conjunction is the same literal, and nothing is made
pub record IsShared (a b l : ℕ) (circuit : Circuit) : Type 0 where
  pub again : and_of a b circuit ≡ (l, circuit)
  pub exchanged : and_of b a circuit ≡ (l, circuit)

-- ---- Connectives. Their gates are made from left to right.

-- the negated conjunction of the negations
unfoldable pub or_of : ℕ → ℕ → Circuit → ℕ × Circuit
or_of a b circuit =
    let neither = and_of (negation a) (negation b) circuit in
    (negation neither.0, neither.1)

-- a without b, or b without a
unfoldable pub xor_of : ℕ → ℕ → Circuit → ℕ × Circuit
xor_of a b circuit =
    let first_alone = and_of a (negation b) circuit in
    let second_alone = and_of (negation a) b first_alone.1 in
    or_of first_alone.0 second_alone.0 second_alone.1

-- a where c is true, and otherwise b
unfoldable pub mux_of : ℕ → ℕ → ℕ → Circuit → ℕ × Circuit
mux_of c a b circuit =
    let chosen_a = and_of c a circuit in
    let chosen_b = and_of (negation c) b chosen_a.1 in
    or_of chosen_a.0 chosen_b.0 chosen_b.1

-- ---- Lists, from the left

-- the conjunction of a literal and of the literals of a list
abbrev pub all_from : ℕ → List ℕ → Circuit → ℕ × Circuit
all_from all [] circuit = (all, circuit)
all_from all (l ∷ lits) circuit = let next = and_of all l circuit in all_from next.0 lits next.1

-- the conjunction of the literals of a list, which begins with true
unfoldable pub all_of : List ℕ → Circuit → ℕ × Circuit
all_of lits circuit = all_from truth lits circuit

-- the disjunction of a literal and of the literals of a list
abbrev pub any_from : ℕ → List ℕ → Circuit → ℕ × Circuit
any_from any [] circuit = (any, circuit)
any_from any (l ∷ lits) circuit = let next = or_of any l circuit in any_from next.0 lits next.1

-- the disjunction of the literals of a list, which begins with false
unfoldable pub any_of : List ℕ → Circuit → ℕ × Circuit
any_of lits circuit = any_from falsity lits circuit
