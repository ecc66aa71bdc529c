-- Gates that are made in order, and circuits that extend others.
use Rattle.std.proofs.Common.{◌≡◌, ℕ, ◌+◌, ◌*◌, ◌<◌, ◌≤◌, Bool, true, false, List, [], ◌∷◌, ◌++◌, sym, ◌∙◌, ap, subst, arith, append_assoc, append-nil}
use Rattle.sat_lits.specs.Literals.{literal, variable_of, negation}
use Rattle.gate_build.specs.Circuits.{Circuit, Gate, output, IsMade, IsGateAbove, AreMadeInOrder, IsSound, Extends}
use Rattle.gate_build.specs.Numbering.{input_of}

-- making gates in order takes no variable away
pub rises : (from to : ℕ) (gates : List Gate) → AreMadeInOrder from gates to → from ≤ to
rises from to [] made = made
rises from to (gate ∷ gates) made = omega (arith, made.0.new, rises (variable_of (output gate)) to gates made.1)

IsGateAbove-lower : (low high : ℕ) (gate : Gate) → low ≤ high → IsGateAbove high gate → IsGateAbove low gate
IsGateAbove-lower low high gate le above = record { no_constant = above.no_constant; apart = above.apart; above = above.above; new = omega (arith, above.new); positive = above.positive }

AreMadeInOrder-lower : (low high to : ℕ) (gates : List Gate) → low ≤ high → AreMadeInOrder high gates to → AreMadeInOrder low gates to
AreMadeInOrder-lower low high to [] le made = omega arith
AreMadeInOrder-lower low high to (gate ∷ gates) le made = (IsGateAbove-lower low high gate le made.0, made.1)

pub AreMadeInOrder-append : (from middle to : ℕ) (gates more : List Gate) → AreMadeInOrder from gates middle → AreMadeInOrder middle more to → AreMadeInOrder from (gates ++ more) to
AreMadeInOrder-append from middle to [] more made then = AreMadeInOrder-lower from middle to more made then
AreMadeInOrder-append from middle to (gate ∷ gates) more made then = (made.0, AreMadeInOrder-append (variable_of (output gate)) middle to gates more made.1 then)

-- a circuit extends itself
pub Extends_same : (circuit : Circuit) → Extends circuit circuit
Extends_same circuit = record { vars = omega arith; since = []; gates = sym (append-nil circuit.gates); in_order = omega arith }

-- what extends an extension extends
pub Extends_through : (old middle new : Circuit) → Extends old middle → Extends middle new → Extends old new
Extends_through old middle new first second = record {
  vars = omega (arith, first.vars, second.vars);
  since = first.since ++ second.since;
  gates = second.gates ∙ ap (λ gates. gates ++ second.since) first.gates ∙ append_assoc old.gates first.since second.since;
  in_order = AreMadeInOrder-append old.vars middle.vars new.vars first.since second.since first.in_order second.in_order;
}

-- an extension of a sound circuit is sound
pub IsSound-extended : (old new : Circuit) → Extends old new → IsSound old → IsSound new
IsSound-extended old new extends sound = record {
  in_order = subst (λ (gates : List Gate). AreMadeInOrder 1 gates new.vars) (sym extends.gates) (AreMadeInOrder-append 1 old.vars new.vars old.gates extends.since sound.in_order extends.in_order);
}

-- one gate more
pub Extends-gate : (circuit : Circuit) (gates : List Gate) (low high out : ℕ)
    → 2 ≤ variable_of low → variable_of low < variable_of high → variable_of high ≤ circuit.vars
    → out ≡ 2 * (circuit.vars + 1) → gates ≡ circuit.gates ++ ((low, high), out) ∷ []
    → Extends circuit (record { vars = circuit.vars + 1; gates = gates })
Extends-gate circuit gates low high out no_constant apart made is added = record {
  vars = omega arith;
  since = ((low, high), out) ∷ [];
  gates = added;
  in_order = (record { no_constant = no_constant; apart = apart; above = omega arith; new = omega arith; positive = omega arith }, omega arith);
}

-- one input more
pub Extends-input_of : (circuit : Circuit) → Extends circuit (input_of circuit).1
unfolding input_of
Extends-input_of circuit = record { vars = omega arith; since = []; gates = sym (append-nil circuit.gates); in_order = omega arith }

-- what is made stays made
pub IsMade-extended : (old new : Circuit) (l : ℕ) → Extends old new → IsMade old l → IsMade new l
IsMade-extended old new l extends made = record { numbered = made.numbered; made = omega (arith, extends.vars, made.made) }

-- the negation of what is made is made
pub IsMade-negation : (circuit : Circuit) (l : ℕ) → IsMade circuit l → IsMade circuit (negation l)
IsMade-negation circuit l made = record { numbered = omega (arith, made.numbered); made = omega (arith, made.made) }

-- the constants are made
pub IsMade-constant : (vars : ℕ) (gates : List Gate) (value : Bool) (l : ℕ) → l ≡ literal 1 value → IsSound (record { vars = vars; gates = gates }) → IsMade (record { vars = vars; gates = gates }) l
IsMade-constant vars gates true l is sound = record { numbered = omega (arith, is); made = omega (arith, is, rises 1 vars gates sound.in_order) }
IsMade-constant vars gates false l is sound = record { numbered = omega (arith, is); made = omega (arith, is, rises 1 vars gates sound.in_order) }
