-- What the fields of gates keep as variables and gates are made.
use Rattle.std.proofs.Common.{◌≡◌, ◌≢◌, ℕ, ◌+◌, ◌*◌, ◌<◌, ◌≤◌, ◌^◌, List, [], ◌∷◌, ◌++◌, Bool, true, false, Some, refl, sym, ◌∙◌, ap, arith, cond}
use Rattle.std.proofs.lemmas.Grind.{flat_map-append}
use Rattle.std.specs.Prelude.{All}
use Rattle.std.specs.List.{flat_map, AllByRecursion}
use Rattle.std.proofs.lemmas.List.Elements.{All-from_recursion}
use Rattle.std.specs.Map.{lookup}
use Rattle.sat_lits.specs.Literals.{variable_of, negation}
use Rattle.gate_build.specs.Circuits.{Circuit, Gate, lower, higher, output, truth, IsInput, clauses_of_gate, clauses_of, AreMadeInOrder, IsSound, IsMade}
use Rattle.gate_build.specs.GatesState.{KeepsTogether}
use Rattle.gate_build.proofs.OrderLemmas.{rises, IsSound-extended, Extends-gate, IsMade-negation}

-- one input more
pub KeepsTogether-input : (vars : ℕ) (clauses : List (List ℕ)) (gates : List Gate) → KeepsTogether vars clauses gates → vars + 1 < 2 ^ 30 → KeepsTogether (vars + 1) clauses gates
KeepsTogether-input vars clauses gates kept small =
    record { listed = kept.listed; sound = record { in_order = more 1 gates kept.sound.in_order }; small = small }
  where
    more : (from : ℕ) (es : List Gate) → AreMadeInOrder from es vars → AreMadeInOrder from es (vars + 1)
    more from [] made = omega arith
    more from (gate ∷ es) made = (made.0, more (variable_of (output gate)) es made.1)

-- one gate more
pub KeepsTogether-gate : (vars : ℕ) (clauses clauses' : List (List ℕ)) (gates gates' : List Gate) (low high out : ℕ)
    → KeepsTogether vars clauses gates
    → 2 ≤ variable_of low → variable_of low < variable_of high → variable_of high ≤ vars → vars + 1 < 2 ^ 30
    → out ≡ 2 * (vars + 1)
    → clauses' ≡ clauses ++ clauses_of_gate ((low, high), out)
    → gates' ≡ gates ++ ((low, high), out) ∷ []
    → KeepsTogether (vars + 1) clauses' gates'
KeepsTogether-gate vars clauses clauses' gates gates' low high out kept no_constant apart made small is listed made_gates =
    let old : Circuit = record { vars = vars; gates = gates } in
    let new : Circuit = record { vars = vars + 1; gates = gates' } in
    record {
      listed =
          listed
          ∙ ap (λ cs. cs ++ clauses_of_gate ((low, high), out)) kept.listed
          ∙ sym (ap (λ cs. (truth ∷ []) ∷ cs) (ap (flat_map clauses_of_gate) made_gates ∙ flat_map-append clauses_of_gate gates (((low, high), out) ∷ [])));
      sound = IsSound-extended old new (Extends-gate old gates' low high out no_constant apart made is made_gates) kept.sound;
      small = small;
    }

-- the output of a gate that is looked up is made
pub found_made : (test : ℕ × ℕ → Bool) (from to l : ℕ) (gates : List Gate) → lookup test gates ≡ Some l → AreMadeInOrder from gates to → (2 ≤ l) × (variable_of l ≤ to)
found_made test from to l [] is made = cc
found_made test from to l (gate ∷ gates) is made = by (test gate.0) refl (λ later. found_made test (variable_of (output gate)) to l gates later made.1)
  where
    Goal : Type 0
    Goal = (2 ≤ l) × (variable_of l ≤ to)

    by : (b : Bool) → test gate.0 ≡ b → (lookup test gates ≡ Some l → Goal) → Goal
    by true same later =
        let first : Some (output gate) ≡ Some l = ap (λ b. cond b (Some (output gate)) (lookup test gates)) (sym same) ∙ is in
        let out : output gate ≡ l = cc in
        (omega (arith, out, made.0.no_constant, made.0.apart, made.0.above), rw (← out) (rises (variable_of (output gate)) to gates made.1))
    by false differ later = later (ap (λ b. cond b (Some (output gate)) (lookup test gates)) (sym differ) ∙ is)

-- a gate adds no input, and what is above all gates is no output
pub not_made : (from to v : ℕ) (gates : List Gate) → AreMadeInOrder from gates to → to < v → AllByRecursion (λ gate. variable_of (output gate) ≢ v) gates
not_made from to v [] made above = tt
not_made from to v (gate ∷ gates) made above =
    ((λ same. omega (arith, same, rises (variable_of (output gate)) to gates made.1)), not_made (variable_of (output gate)) to v gates made.1 above)

-- a new variable is an input
pub IsInput-new : (vars : ℕ) (gates : List Gate) → IsSound (record { vars = vars; gates = gates }) → IsInput (record { vars = vars + 1; gates = gates }) (vars + 1)
IsInput-new vars gates sound = record {
  above = omega (arith, rises 1 vars gates sound.in_order);
  made = omega arith;
  no_output = All-from_recursion (λ gate. variable_of (output gate) ≢ vars + 1) gates (not_made 1 vars (vars + 1) gates sound.in_order (omega arith));
}

-- ---- The clauses are over variables that are made

made_lits : (circuit : Circuit) (from : ℕ) (gates : List Gate) → AreMadeInOrder from gates circuit.vars → AllByRecursion (All (IsMade circuit)) (flat_map clauses_of_gate gates)
made_lits circuit from [] made = tt
made_lits circuit from (gate ∷ gates) made = (two (lower gate) low, (two (higher gate) high, (three, made_lits circuit (variable_of (output gate)) gates made.1)))
  where
    P : ℕ → Type 0
    P = IsMade circuit

    top : variable_of (output gate) ≤ circuit.vars
    top = rises (variable_of (output gate)) circuit.vars gates made.1

    low : P (lower gate)
    low = record { numbered = omega (arith, made.0.no_constant); made = omega (arith, made.0.apart, made.0.above, top) }

    high : P (higher gate)
    high = record { numbered = omega (arith, made.0.no_constant, made.0.apart); made = omega (arith, made.0.above, top) }

    out : P (output gate)
    out = record { numbered = omega (arith, made.0.no_constant, made.0.apart, made.0.above); made = top }

    two : (l : ℕ) → P l → All P (l ∷ negation (output gate) ∷ [])
    two l is = All-from_recursion P (l ∷ negation (output gate) ∷ []) (is, (IsMade-negation circuit (output gate) out, tt))

    three : All P (negation (lower gate) ∷ negation (higher gate) ∷ output gate ∷ [])
    three = All-from_recursion P (negation (lower gate) ∷ negation (higher gate) ∷ output gate ∷ []) (IsMade-negation circuit (lower gate) low, (IsMade-negation circuit (higher gate) high, (out, tt)))

pub made_clauses : (circuit : Circuit) → IsSound circuit → All (All (IsMade circuit)) (clauses_of circuit)
made_clauses circuit sound =
    All-from_recursion (All (IsMade circuit)) (clauses_of circuit) (
      All-from_recursion (IsMade circuit) (truth ∷ []) (record { numbered = omega arith; made = rises 1 circuit.vars circuit.gates sound.in_order }, tt),
      made_lits circuit 1 circuit.gates sound.in_order,
    )
