-- A conjunction that is asked again.
use Rattle.std.proofs.Common.{◌≡◌, ◌≢◌, ℕ, ◌+◌, ◌*◌, ◌<◌, ◌≤◌, ◌==◌, ◌||◌, Bool, true, false, if◌then◌else◌, List, [], ◌∷◌, ◌++◌, Option, None, Some, arith, refl, sym, ◌∙◌, ap, subst, cond}
use Rattle.std.specs.Map.{lookup}
use Rattle.std.proofs.lemmas.Bool.Decides.{nat_tests}
use Rattle.sat_lits.specs.Literals.{variable_of, negation}
use Rattle.gate_build.specs.Circuits.{Circuit, Gate, truth, falsity, IsMade}
use Rattle.gate_build.specs.Numbering.{pair_eq, sorted_pair, simplified, gate_of, with_gate, found_or_new, output_of, simple_or_gate, and_of, IsShared}
use Rattle.gate_build.proofs.MeaningLemmas.{by_if}

-- ---- Exchanged operands

simplified-exchanged : (a b : ℕ) → simplified a b ≡ simplified b a
unfolding simplified
simplified-exchanged a b = grind (arith, nat_tests)

-- what needs no gate is made
pub simplified-made : (circuit : Circuit) (a b l : ℕ) → IsMade circuit a → IsMade circuit b → simplified a b ≡ Some l → IsMade circuit l
unfolding simplified
simplified-made circuit a b l made_a made_b =
    by_if P (a == falsity || b == falsity || a == negation b) (Some falsity) (if a == truth then Some b else if b == truth || a == b then Some a else None)
    (λ _ is. let same : falsity ≡ l = cc in record { numbered = omega (arith, same); made = omega (arith, same, made_a.numbered, made_a.made) })
    (λ _. by_if P (a == truth) (Some b) (if b == truth || a == b then Some a else None)
    (λ _ is. let same : b ≡ l = cc in subst (λ (m : ℕ). IsMade circuit m) same made_b)
    (λ _. by_if P (b == truth || a == b) (Some a) None
    (λ _ is. let same : a ≡ l = cc in subst (λ (m : ℕ). IsMade circuit m) same made_a)
    (λ _ is. cc)))
  where
    P : Option ℕ → Type 0
    P answer = answer ≡ Some l → IsMade circuit l

-- operands that need a gate are over two different variables, neither of them variable 1
pub simplified-none : (a b : ℕ) → 2 ≤ a → 2 ≤ b → simplified a b ≡ None → (2 ≤ variable_of (sorted_pair a b).0) × (variable_of (sorted_pair a b).0 < variable_of (sorted_pair a b).1)
unfolding simplified
simplified-none a b numbered_a numbered_b none = (grind (arith, nat_tests), grind (arith, nat_tests))

sorted_pair-exchanged : (a b : ℕ) → a ≢ b → sorted_pair a b ≡ sorted_pair b a
sorted_pair-exchanged a b ne = grind (arith, nat_tests)

simplified_same : (a b : ℕ) → a ≡ b → simplified a b ≡ None → ⊥
unfolding simplified
simplified_same a b same none = grind (arith, nat_tests)

and_of-exchanged : (a b : ℕ) (circuit : Circuit) → and_of a b circuit ≡ and_of b a circuit
unfolding and_of
and_of-exchanged a b circuit = by (simplified a b) refl
  where
    by : (simple : Option ℕ) → simplified a b ≡ simple → simple_or_gate circuit (sorted_pair a b) (simplified a b) ≡ simple_or_gate circuit (sorted_pair b a) (simplified b a)
    by (Some l) is = rw (← simplified-exchanged a b, is) refl
    by None is =
        let ne : a ≢ b = λ same. simplified_same a b same is in
        rw (← simplified-exchanged a b, sorted_pair-exchanged a b ne) refl

-- ---- The run of the code

pub and_of-simple : (a b l : ℕ) (circuit : Circuit) → simplified a b ≡ Some l → (l, circuit) ≡ and_of a b circuit
unfolding and_of
and_of-simple a b l circuit is = sym (ap (simple_or_gate circuit (sorted_pair a b)) is)

pub and_of-gate : (a b : ℕ) (circuit : Circuit) → simplified a b ≡ None → output_of circuit (sorted_pair a b) ≡ and_of a b circuit
unfolding and_of
and_of-gate a b circuit is = sym (ap (simple_or_gate circuit (sorted_pair a b)) is)

-- ---- The gate is found

pair_eq-same : (p : ℕ × ℕ) → pair_eq p p ≡ true
pair_eq-same p = grind (arith, nat_tests)

lookup-last : (pair : ℕ × ℕ) (l : ℕ) (gates : List Gate) → lookup (pair_eq pair) gates ≡ None → lookup (pair_eq pair) (gates ++ (pair, l) ∷ []) ≡ Some l
lookup-last pair l [] none = ap (λ b. cond b (Some l) None) (pair_eq-same pair)
lookup-last pair l (gate ∷ gates) none = by (pair_eq pair gate.0) refl (λ later. lookup-last pair l gates later)
  where
    Goal : Type 0
    Goal = cond (pair_eq pair gate.0) (Some gate.1) (lookup (pair_eq pair) (gates ++ (pair, l) ∷ [])) ≡ Some l

    by : (b : Bool) → pair_eq pair gate.0 ≡ b → (lookup (pair_eq pair) gates ≡ None → lookup (pair_eq pair) (gates ++ (pair, l) ∷ []) ≡ Some l) → Goal
    by true same later =
        let some : Some gate.1 ≡ None = ap (λ b. cond b (Some gate.1) (lookup (pair_eq pair) gates)) (sym same) ∙ none in
        cc
    by false differ later =
        ap (λ b. cond b (Some gate.1) (lookup (pair_eq pair) (gates ++ (pair, l) ∷ []))) differ
        ∙ later (ap (λ b. cond b (Some gate.1) (lookup (pair_eq pair) gates)) (sym differ) ∙ none)

output_of-again : (circuit : Circuit) (operands : ℕ × ℕ) → output_of (output_of circuit operands).1 operands ≡ output_of circuit operands
output_of-again circuit operands = by (gate_of circuit operands) refl
  where
    by : (gate : Option ℕ) → gate_of circuit operands ≡ gate → output_of (found_or_new circuit operands gate).1 operands ≡ found_or_new circuit operands gate
    by (Some l) is = ap (found_or_new circuit operands) is
    by None is = ap (found_or_new (with_gate circuit operands) operands) (lookup-last operands (2 * (circuit.vars + 1)) circuit.gates is)

and_of-again : (a b : ℕ) (circuit : Circuit) → and_of a b (and_of a b circuit).1 ≡ and_of a b circuit
unfolding and_of
and_of-again a b circuit = by (simplified a b)
  where
    by : (simple : Option ℕ) → simple_or_gate (simple_or_gate circuit (sorted_pair a b) simple).1 (sorted_pair a b) simple ≡ simple_or_gate circuit (sorted_pair a b) simple
    by (Some l) = refl
    by None = output_of-again circuit (sorted_pair a b)

pub IsShared-from : (a b l : ℕ) (old new : Circuit) → (l, new) ≡ and_of a b old → IsShared a b l new
IsShared-from a b l old new is =
    subst (λ (r : ℕ × Circuit). IsShared a b r.0 r.1) (sym is)
    (record { again = and_of-again a b old; exchanged = and_of-exchanged b a (and_of a b old).1 ∙ and_of-again a b old })
