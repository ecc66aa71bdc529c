-- Each assignment of the inputs extends in exactly one way to one that satisfies the clauses.
use Rattle.std.proofs.Common.{◌≡◌, ◌≢◌, ℕ, ◌%◌, ◌<◌, ◌≤◌, ◌==◌, ◌||◌, ◌&&◌, Bool, true, false, not, if◌then◌else◌, List, [], ◌∷◌, arith, refl, sym, ◌∙◌, ap}
use Rattle.std.specs.List.{flat_map, AllByRecursion}
use Rattle.std.proofs.lemmas.Bool.Decides.{nat_tests}
use Rattle.std.proofs.lemmas.List.Elements.{All-from_recursion, recursion_from_All}
use Rattle.sat_lits.specs.Literals.{variable_of, literal_true, is_positive_literal}
use Rattle.sat_lits.specs.Clauses.{clause_true}
use Rattle.sat_lits.proofs.Truth.{literal_true-negation}
use Rattle.gate_build.specs.Circuits.{Circuit, Gate, lower, higher, output, clauses_of_gate, clauses_of, IsInput, AreMadeInOrder, IsSound}
use Rattle.gate_build.specs.Meaning.{AgreeOn, UpTo, ExtendsOnce, Holds}
use Rattle.gate_build.proofs.MeaningLemmas.{IsConjunction, conjunctions, truth-holds, by_if}
use Rattle.gate_build.proofs.OrderLemmas.{rises}

-- ---- The extension

-- the assignment with another value of one variable
abbrev pub with_value : (ℕ → Bool) → ℕ → Bool → (ℕ → Bool)
with_value values v b = λ w. if w == v then b else values w

-- the conjunction of the operands
abbrev pub conjunction_of : (ℕ → Bool) → Gate → Bool
conjunction_of values gate = literal_true values (lower gate) && literal_true values (higher gate)

-- the assignment in which each gate's output was given the conjunction of its operands, one gate after another
abbrev pub with_gates : (ℕ → Bool) → List Gate → (ℕ → Bool)
with_gates values [] = values
with_gates values (gate ∷ gates) = with_gates (with_value values (variable_of (output gate)) (conjunction_of values gate)) gates

-- the assignment of the inputs, with variable 1 and the outputs of the gates
abbrev pub extended : Circuit → (ℕ → Bool) → (ℕ → Bool)
extended circuit values = with_gates (with_value values 1 true) circuit.gates

with_value-same : (values : ℕ → Bool) (v : ℕ) (b : Bool) → with_value values v b v ≡ b
with_value-same values v b = grind (arith, nat_tests)

with_value-other : (values : ℕ → Bool) (v w : ℕ) (b : Bool) → w ≢ v → with_value values v b w ≡ values w
with_value-other values v w b ne = grind (arith, nat_tests)

-- variables that are no outputs keep their values
with_gates-other : (values : ℕ → Bool) (v : ℕ) (gates : List Gate) → AllByRecursion (λ gate. variable_of (output gate) ≢ v) gates → with_gates values gates v ≡ values v
with_gates-other values v [] none = refl
with_gates-other values v (gate ∷ gates) none =
    let ne : v ≢ variable_of (output gate) = λ same. none.0 (sym same) in
    with_gates-other (with_value values (variable_of (output gate)) (conjunction_of values gate)) v gates none.1
    ∙ with_value-other values (variable_of (output gate)) v (conjunction_of values gate) ne

-- the outputs of gates that are made in order are above what was made before
above_all : (from to v : ℕ) (gates : List Gate) → AreMadeInOrder from gates to → v ≤ from → AllByRecursion (λ gate. variable_of (output gate) ≢ v) gates
above_all from to v [] made within = tt
above_all from to v (gate ∷ gates) made within = ((λ same. omega (arith, same, made.0.new)), above_all (variable_of (output gate)) to v gates made.1 (omega (arith, made.0.new)))

with_gates-below : (values : ℕ → Bool) (from to v : ℕ) (gates : List Gate) → AreMadeInOrder from gates to → v ≤ from → with_gates values gates v ≡ values v
with_gates-below values from to v gates made within = with_gates-other values v gates (above_all from to v gates made within)

literal-same : (values other : ℕ → Bool) (l : ℕ) → values (variable_of l) ≡ other (variable_of l) → literal_true values l ≡ literal_true other l
literal-same values other l same = ap (λ b. if is_positive_literal l then b else not b) same

positive-literal : (values : ℕ → Bool) (l : ℕ) → l % 2 ≡ 0 → literal_true values l ≡ values (variable_of l)
positive-literal values l even = grind (arith, nat_tests)

-- ---- It satisfies the clauses

with_gates-conjunctions : (values : ℕ → Bool) (from to : ℕ) (gates : List Gate) → AreMadeInOrder from gates to → AllByRecursion (IsConjunction (with_gates values gates)) gates
with_gates-conjunctions values from to [] made = tt
with_gates-conjunctions values from to (gate ∷ gates) made = (here, with_gates-conjunctions next (variable_of (output gate)) to gates made.1)
  where
    b : Bool
    b = conjunction_of values gate

    next : ℕ → Bool
    next = with_value values (variable_of (output gate)) b

    kept : (v : ℕ) → v ≤ variable_of (output gate) → with_gates next gates v ≡ next v
    kept v within = with_gates-below next (variable_of (output gate)) to v gates made.1 within

    operand : (l : ℕ) → variable_of l < variable_of (output gate) → literal_true (with_gates next gates) l ≡ literal_true values l
    operand l below =
        let ne : variable_of l ≢ variable_of (output gate) = omega arith in
        let within : variable_of l ≤ variable_of (output gate) = omega arith in
        literal-same (with_gates next gates) values l (kept (variable_of l) within ∙ with_value-other values (variable_of (output gate)) (variable_of l) b ne)

    here : IsConjunction (with_gates next gates) gate
    here =
        let low : variable_of (lower gate) < variable_of (output gate) = omega (arith, made.0.apart, made.0.above) in
        let within : variable_of (output gate) ≤ variable_of (output gate) = omega arith in
        rw (operand (lower gate) low, operand (higher gate) made.0.above, positive-literal (with_gates next gates) (output gate) made.0.positive, kept (variable_of (output gate)) within, with_value-same values (variable_of (output gate)) b) refl

three_clauses-back : (a b g : Bool) → g ≡ (a && b) → ((a || (not g || false)) ≡ true) × ((b || (not g || false)) ≡ true) × ((not a || (not b || (g || false))) ≡ true)
three_clauses-back true true true is = (refl, refl, refl)
three_clauses-back true true false is = cc
three_clauses-back true false true is = cc
three_clauses-back true false false is = (refl, refl, refl)
three_clauses-back false true true is = cc
three_clauses-back false true false is = (refl, refl, refl)
three_clauses-back false false true is = cc
three_clauses-back false false false is = (refl, refl, refl)

clauses-from : (values : ℕ → Bool) (gates : List Gate) → AllByRecursion (IsConjunction values) gates → AllByRecursion (λ clause. clause_true values clause ≡ true) (flat_map clauses_of_gate gates)
clauses-from values [] all = tt
clauses-from values (gate ∷ gates) all =
    let three = three_clauses-back (literal_true values (lower gate)) (literal_true values (higher gate)) (literal_true values (output gate)) all.0 in (
      rw (literal_true-negation values (output gate)) three.0,
      (
        rw (literal_true-negation values (output gate)) three.1,
        (rw (literal_true-negation values (lower gate), literal_true-negation values (higher gate)) three.2, clauses-from values gates all.1),
      ),
    )

extended-satisfies : (circuit : Circuit) (values : ℕ → Bool) → IsSound circuit → Holds (extended circuit values) circuit
extended-satisfies circuit values sound =
    let P : List ℕ → Type 0 = λ clause. clause_true (extended circuit values) clause ≡ true in
    let first : ℕ → Bool = with_value values 1 true in
    let one : extended circuit values 1 ≡ true = with_gates-below first 1 circuit.vars 1 circuit.gates sound.in_order (omega arith) in
    All-from_recursion P (clauses_of circuit) (rw one refl, clauses-from (extended circuit values) circuit.gates (with_gates-conjunctions first 1 circuit.vars circuit.gates sound.in_order))

-- ---- It agrees on the inputs

extended-agrees : (circuit : Circuit) (values : ℕ → Bool) → AgreeOn (IsInput circuit) (extended circuit values) values
extended-agrees circuit values v input =
    let ne : v ≢ 1 = omega (arith, input.above) in
    with_gates-other (with_value values 1 true) v circuit.gates (recursion_from_All (λ gate. variable_of (output gate) ≢ v) circuit.gates input.no_output)
    ∙ with_value-other values 1 v true ne

-- ---- It is the only one

-- an assignment in which each gate is a conjunction is what the gates make of it
with_gates-same : (values other : ℕ → Bool) (from to : ℕ) (gates : List Gate) → AreMadeInOrder from gates to → AllByRecursion (IsConjunction other) gates → ((v : ℕ) → values v ≡ other v) → (v : ℕ) → with_gates values gates v ≡ other v
with_gates-same values other from to [] made all same v = same v
with_gates-same values other from to (gate ∷ gates) made all same v =
    with_gates-same (with_value values (variable_of (output gate)) (conjunction_of values gate)) other (variable_of (output gate)) to gates made.1 all.1 next v
  where
    is : conjunction_of values gate ≡ other (variable_of (output gate))
    is = rw (literal-same values other (lower gate) (same (variable_of (lower gate))), literal-same values other (higher gate) (same (variable_of (higher gate))), ← all.0) (positive-literal other (output gate) made.0.positive)

    next : (w : ℕ) → with_value values (variable_of (output gate)) (conjunction_of values gate) w ≡ other w
    next w = by_if (λ (r : Bool). r ≡ other w) (w == variable_of (output gate)) (conjunction_of values gate) (values w)
        (λ t. let here : w ≡ variable_of (output gate) = grind (arith, nat_tests) in is ∙ ap other (sym here))
        (λ _. same w)

extended-same : (circuit : Circuit) (values : ℕ → Bool) → IsSound circuit → Holds values circuit → (v : ℕ) → extended circuit values v ≡ values v
extended-same circuit values sound hold =
    with_gates-same (with_value values 1 true) values 1 circuit.vars circuit.gates sound.in_order (conjunctions values circuit hold)
    (λ v. by_if (λ (r : Bool). r ≡ values v) (v == 1) true (values v)
    (λ t. let is : v ≡ 1 = grind (arith, nat_tests) in rw is (sym (truth-holds values circuit hold)))
    (λ _. refl))

-- what the gates make of two assignments is the same where both agree on all that is no output
with_gates-agree : (values other : ℕ → Bool) (from to : ℕ) (gates : List Gate) → AreMadeInOrder from gates to
    → ((v : ℕ) → 1 ≤ v → v ≤ to → AllByRecursion (λ gate. variable_of (output gate) ≢ v) gates → values v ≡ other v)
    → (v : ℕ) → 1 ≤ v → v ≤ to → with_gates values gates v ≡ with_gates other gates v
with_gates-agree values other from to [] made agree v positive within = agree v positive within tt
with_gates-agree values other from to (gate ∷ gates) made agree v positive within =
    with_gates-agree (with_value values (variable_of (output gate)) (conjunction_of values gate)) (with_value other (variable_of (output gate)) (conjunction_of other gate)) (variable_of (output gate)) to gates made.1 next v positive within
  where
    out_within : variable_of (output gate) ≤ to
    out_within = rises (variable_of (output gate)) to gates made.1

    operand : (l : ℕ) → 1 ≤ variable_of l → variable_of l < variable_of (output gate) → literal_true values l ≡ literal_true other l
    operand l positive below =
        literal-same values other l
        (agree (variable_of l) positive (omega (arith, below, out_within))
        ((λ same. omega (arith, same, below)), above_all (variable_of (output gate)) to (variable_of l) gates made.1 (omega (arith, below))))

    same_value : conjunction_of values gate ≡ conjunction_of other gate
    same_value =
        rw (
          operand (lower gate) (omega (arith, made.0.no_constant)) (omega (arith, made.0.apart, made.0.above)),
          operand (higher gate) (omega (arith, made.0.no_constant, made.0.apart)) made.0.above,
        ) refl

    next : (w : ℕ) → 1 ≤ w → w ≤ to → AllByRecursion (λ g. variable_of (output g) ≢ w) gates → with_value values (variable_of (output gate)) (conjunction_of values gate) w ≡ with_value other (variable_of (output gate)) (conjunction_of other gate) w
    next w positive_w within_w none =
        by_if (λ (r : Bool). r ≡ with_value other (variable_of (output gate)) (conjunction_of other gate) w) (w == variable_of (output gate)) (conjunction_of values gate) (values w)
        (λ t. let here : w ≡ variable_of (output gate) = grind (arith, nat_tests) in
        rw (here, with_value-same other (variable_of (output gate)) (conjunction_of other gate)) same_value)
        (λ f. let ne : w ≢ variable_of (output gate) = grind (arith, nat_tests) in
        agree w positive_w within_w ((λ same. ne (sym same)), none) ∙ sym (with_value-other other (variable_of (output gate)) w (conjunction_of other gate) ne))

extended-only : (circuit : Circuit) (values other : ℕ → Bool) → IsSound circuit → Holds values circuit → Holds other circuit → AgreeOn (IsInput circuit) values other → AgreeOn (UpTo circuit.vars) values other
extended-only circuit values other sound hold hold_other agree v within =
    sym (extended-same circuit values sound hold v)
    ∙ with_gates-agree (with_value values 1 true) (with_value other 1 true) 1 circuit.vars circuit.gates sound.in_order start v within.0 within.1
    ∙ extended-same circuit other sound hold_other v
  where
    start : (w : ℕ) → 1 ≤ w → w ≤ circuit.vars → AllByRecursion (λ gate. variable_of (output gate) ≢ w) circuit.gates → with_value values 1 true w ≡ with_value other 1 true w
    start w positive made none =
        by_if (λ (r : Bool). r ≡ with_value other 1 true w) (w == 1) true (values w)
        (λ t. let is : w ≡ 1 = grind (arith, nat_tests) in rw is refl)
        (λ f. let ne : w ≢ 1 = grind (arith, nat_tests) in
        agree w (record { above = omega arith; made = made; no_output = All-from_recursion (λ gate. variable_of (output gate) ≢ w) circuit.gates none })
        ∙ sym (with_value-other other 1 w true ne))

-- the one extension
pub one_extension : (circuit : Circuit) → IsSound circuit → ExtendsOnce (IsInput circuit) circuit.vars (clauses_of circuit)
one_extension circuit sound = record {
  extension = extended circuit;
  extends = extended-agrees circuit;
  satisfies = λ values. extended-satisfies circuit values sound;
  only = λ values other hold hold_other agree. extended-only circuit values other sound hold hold_other agree;
}
