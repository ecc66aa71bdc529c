-- What the literals of a circuit mean in an assignment that satisfies its clauses.
use Rattle.std.proofs.Common.{◌≡◌, ℕ, ◌+◌, ◌*◌, ◌==◌, ◌||◌, ◌&&◌, Bool, true, false, not, if◌then◌else◌, nat_lt, List, [], ◌∷◌, ◌++◌, Option, None, Some, arith, refl, ◌⊎◌, inl, inr, sym, ◌∙◌, ap, subst, cond}
use Rattle.std.proofs.lemmas.Grind.{flat_map-append}
use Rattle.std.specs.List.{flat_map, AllByRecursion, list_all, list_any}
use Rattle.std.specs.Map.{lookup}
use Rattle.std.proofs.lemmas.Bool.Decides.{nat_tests}
use Rattle.std.proofs.lemmas.List.Elements.{All-from_recursion, recursion_from_All}
use Rattle.sat_lits.specs.Literals.{negation, literal_true}
use Rattle.sat_lits.specs.Clauses.{clause_true}
use Rattle.sat_lits.proofs.Truth.{literal_true-negation}
use Rattle.gate_build.specs.Circuits.{Circuit, Gate, lower, higher, output, truth, falsity, clauses_of_gate, clauses_of, Extends}
use Rattle.gate_build.specs.Meaning.{Holds, Computes, exclusive, both, either, differ, chosen, all_true, any_true}
use Rattle.gate_build.specs.Numbering.{pair_eq, sorted_pair, simplified, gate_of, with_gate, found_or_new, output_of, simple_or_gate, and_of, or_of, xor_of, mux_of, all_from, all_of, any_from, any_of}

-- the output is the conjunction of the operands
abbrev pub IsConjunction : (ℕ → Bool) → Gate → Type 0
IsConjunction values gate = literal_true values (output gate) ≡ (literal_true values (lower gate) && literal_true values (higher gate))

-- ---- Clauses and gates

-- the clauses of a gate, by the truth of its literals
three_clauses : (a b g : Bool) → ((a || (not g || false)) ≡ true) → ((b || (not g || false)) ≡ true) → ((not a || (not b || (g || false))) ≡ true) → g ≡ (a && b)
three_clauses true true true p q r = refl
three_clauses true true false p q r = cc
three_clauses true false true p q r = cc
three_clauses true false false p q r = refl
three_clauses false true true p q r = cc
three_clauses false true false p q r = refl
three_clauses false false true p q r = cc
three_clauses false false false p q r = refl

conjunctions-from : (values : ℕ → Bool) (gates : List Gate) → AllByRecursion (λ clause. clause_true values clause ≡ true) (flat_map clauses_of_gate gates) → AllByRecursion (IsConjunction values) gates
conjunctions-from values [] hold = tt
conjunctions-from values (gate ∷ gates) hold = (
  three_clauses (literal_true values (lower gate)) (literal_true values (higher gate)) (literal_true values (output gate))
      (rw literal_true-negation at hold.0)
      (rw literal_true-negation at hold.1.0)
      (rw (literal_true-negation values (lower gate), literal_true-negation values (higher gate)) at hold.1.1.0),
  conjunctions-from values gates hold.1.1.1,
)

-- the clauses one by one
pub clauses_hold : (values : ℕ → Bool) (circuit : Circuit) → Holds values circuit → AllByRecursion (λ clause. clause_true values clause ≡ true) (clauses_of circuit)
clauses_hold values circuit hold = recursion_from_All (λ clause. clause_true values clause ≡ true) (clauses_of circuit) hold

-- where the clauses hold, each gate is a conjunction
pub conjunctions : (values : ℕ → Bool) (circuit : Circuit) → Holds values circuit → AllByRecursion (IsConjunction values) circuit.gates
conjunctions values circuit hold = conjunctions-from values circuit.gates (clauses_hold values circuit hold).1

or_false : (b : Bool) → (b || false) ≡ b
or_false true = refl
or_false false = refl

-- where the clauses hold, variable 1 is true
pub truth-holds : (values : ℕ → Bool) (circuit : Circuit) → Holds values circuit → values 1 ≡ true
truth-holds values circuit hold = sym (or_false (values 1)) ∙ (clauses_hold values circuit hold).0

-- ---- Clauses that hold also held before

prefix_holds : {X : Type 0} (P : X → Type 0) (xs ys : List X) → AllByRecursion P (xs ++ ys) → AllByRecursion P xs
prefix_holds P [] ys all = tt
prefix_holds P (x ∷ xs) ys all = (all.0, prefix_holds P xs ys all.1)

pub Holds-prefix : (values : ℕ → Bool) (old new : Circuit) (more : List Gate) → new.gates ≡ old.gates ++ more → Holds values new → Holds values old
Holds-prefix values old new more gates hold =
    let P : List ℕ → Type 0 = λ clause. clause_true values clause ≡ true in
    let all : AllByRecursion P (clauses_of old ++ flat_map clauses_of_gate more) =
    subst (λ clauses. AllByRecursion P ((truth ∷ []) ∷ clauses)) (ap (flat_map clauses_of_gate) gates ∙ flat_map-append clauses_of_gate old.gates more) (clauses_hold values new hold) in
    All-from_recursion P (clauses_of old) (prefix_holds P (clauses_of old) (flat_map clauses_of_gate more) all)

pub Holds-before : (values : ℕ → Bool) (old new : Circuit) → Extends old new → Holds values new → Holds values old
Holds-before values old new extends hold = Holds-prefix values old new extends.since extends.gates hold

-- ---- Runs

-- A run from a circuit: in each assignment that satisfies the clauses after it, those before it hold, and its literal
-- has this value.
abbrev pub Gives : (ℕ → Bool) → Circuit → ℕ × Circuit → Bool → Type 0
Gives values circuit run value = Holds values run.1 → Holds values circuit × (literal_true values run.0 ≡ value)

-- a literal computes what its run gives
pub Computes-from : (l : ℕ) (old new : Circuit) (run : ℕ × Circuit) (function : (ℕ → Bool) → Bool) → (l, new) ≡ run → ((values : ℕ → Bool) → Gives values old run (function values)) → Computes new l function
Computes-from l old new run function is gives =
    subst (λ (r : ℕ × Circuit). Computes r.1 r.0 function) (sym is) (record { computes = λ values hold. (gives values hold).1 })

eqb_true : (a b : ℕ) → (a == b) ≡ true → a ≡ b
eqb_true a b h = grind (arith, nat_tests)

-- what is true of each gate is true of the one that is looked up
found : (values : ℕ → Bool) (operands : ℕ × ℕ) (l : ℕ) (gates : List Gate) → lookup (pair_eq operands) gates ≡ Some l → AllByRecursion (IsConjunction values) gates → literal_true values l ≡ (literal_true values operands.0 && literal_true values operands.1)
found values operands l [] is all = cc
found values operands l (gate ∷ gates) is all = by (pair_eq operands gate.0) refl (λ later. found values operands l gates later all.1)
  where
    Goal : Type 0
    Goal = literal_true values l ≡ (literal_true values operands.0 && literal_true values operands.1)

    by : (b : Bool) → pair_eq operands gate.0 ≡ b → (lookup (pair_eq operands) gates ≡ Some l → Goal) → Goal
    by true same later =
        let low : operands.0 ≡ lower gate = grind (arith, nat_tests) in
        let high : operands.1 ≡ higher gate = grind (arith, nat_tests) in
        let first : Some (output gate) ≡ Some l = ap (λ b. cond b (Some (output gate)) (lookup (pair_eq operands) gates)) (sym same) ∙ is in
        let out : output gate ≡ l = cc in
        rw (← out, low, high) all.0
    by false differ later = later (ap (λ b. cond b (Some (output gate)) (lookup (pair_eq operands) gates)) (sym differ) ∙ is)

last_holds : {X : Type 0} (P : X → Type 0) (xs : List X) (y : X) → AllByRecursion P (xs ++ y ∷ []) → P y
last_holds P [] y all = all.0
last_holds P (x ∷ xs) y all = last_holds P xs y all.1

-- the output of the gate of two operands is their conjunction
output_of-gives : (values : ℕ → Bool) (circuit : Circuit) (operands : ℕ × ℕ) → Gives values circuit (output_of circuit operands) (literal_true values operands.0 && literal_true values operands.1)
output_of-gives values circuit operands = by (gate_of circuit operands) refl
  where
    by : (gate : Option ℕ) → gate_of circuit operands ≡ gate → Gives values circuit (found_or_new circuit operands gate) (literal_true values operands.0 && literal_true values operands.1)
    by (Some l) is hold = (hold, found values operands l circuit.gates is (conjunctions values circuit hold))
    by None is hold = (
      Holds-prefix values circuit (with_gate circuit operands) ((operands, 2 * (circuit.vars + 1)) ∷ []) refl hold,
      last_holds (IsConjunction values) circuit.gates (operands, 2 * (circuit.vars + 1)) (conjunctions values (with_gate circuit operands) hold),
    )

and_comm : (a b : Bool) → (a && b) ≡ (b && a)
and_comm true true = refl
and_comm true false = refl
and_comm false true = refl
and_comm false false = refl

pub by_if : {A : Type 0} (P : A → Type 0) (c : Bool) (x y : A) → (c ≡ true → P x) → (c ≡ false → P y) → P (if c then x else y)
by_if P true x y f g = f refl
by_if P false x y f g = g refl

sorted_pair-conjunction : (values : ℕ → Bool) (a b : ℕ) → (literal_true values (sorted_pair a b).0 && literal_true values (sorted_pair a b).1) ≡ (literal_true values a && literal_true values b)
sorted_pair-conjunction values a b =
    by_if (λ (p : ℕ × ℕ). (literal_true values p.0 && literal_true values p.1) ≡ (literal_true values a && literal_true values b)) (nat_lt a b) (a, b) (b, a)
    (λ _. refl) (λ _. and_comm (literal_true values b) (literal_true values a))

and_false : (b : Bool) → false ≡ (b && false)
and_false true = refl
and_false false = refl

and_not : (b : Bool) → false ≡ (not b && b)
and_not true = refl
and_not false = refl

and_self : (b : Bool) → b ≡ (b && b)
and_self true = refl
and_self false = refl

and_true : (b : Bool) → b ≡ (b && true)
and_true true = refl
and_true false = refl

or-true : (a b : Bool) → (a || b) ≡ true → (a ≡ true) ⊎ (b ≡ true)
or-true true b h = inl refl
or-true false b h = inr h

-- what needs no gate is the conjunction too
simplified-meaning : (values : ℕ → Bool) (a b l : ℕ) → values 1 ≡ true → simplified a b ≡ Some l → literal_true values l ≡ (literal_true values a && literal_true values b)
unfolding simplified
simplified-meaning values a b l one =
    by_if P (a == falsity || b == falsity || a == negation b) (Some falsity) (if a == truth then Some b else if b == truth || a == b then Some a else None)
    clashes
    (λ _. by_if P (a == truth) (Some b) (if b == truth || a == b then Some a else None)
    (λ t is. let same : b ≡ l = cc in rw (← same, eqb_true a truth t, one) refl)
    (λ _. by_if P (b == truth || a == b) (Some a) None
    equal
    (λ _ is. cc)))
  where
    P : Option ℕ → Type 0
    P answer = answer ≡ Some l → literal_true values l ≡ (literal_true values a && literal_true values b)

    clashes : (a == falsity || b == falsity || a == negation b) ≡ true → P (Some falsity)
    clashes t is =
        let same : falsity ≡ l = cc in
        elim (or-true (a == falsity || b == falsity) (a == negation b) t) [
          | inl u ↦ elim (or-true (a == falsity) (b == falsity) u) [
            | inl v ↦ rw (← same, eqb_true a falsity v, one) refl
            | inr v ↦ rw (← same, eqb_true b falsity v, one) (and_false (literal_true values a))
          ]
          | inr u ↦ rw (← same, eqb_true a (negation b) u, literal_true-negation values b, one) (and_not (literal_true values b))
        ]

    equal : (b == truth || a == b) ≡ true → P (Some a)
    equal t is =
        let same : a ≡ l = cc in
        elim (or-true (b == truth) (a == b) t) [
          | inl v ↦ rw (← same, eqb_true b truth v, one) (and_true (literal_true values a))
          | inr v ↦ rw (← same, eqb_true a b v) (and_self (literal_true values b))
        ]

pub and_of-gives : (values : ℕ → Bool) (a b : ℕ) (circuit : Circuit) → Gives values circuit (and_of a b circuit) (literal_true values a && literal_true values b)
unfolding and_of
and_of-gives values a b circuit = by (simplified a b) refl
  where
    by : (simple : Option ℕ) → simplified a b ≡ simple → Gives values circuit (simple_or_gate circuit (sorted_pair a b) simple) (literal_true values a && literal_true values b)
    by (Some l) is hold = (hold, simplified-meaning values a b l (truth-holds values circuit hold) is)
    by None is hold =
        let gate = output_of-gives values circuit (sorted_pair a b) hold in
        (gate.0, gate.1 ∙ sorted_pair-conjunction values a b)

not_and : (a b : Bool) → not (not a && not b) ≡ (a || b)
not_and true b = refl
not_and false true = refl
not_and false false = refl

pub or_of-gives : (values : ℕ → Bool) (a b : ℕ) (circuit : Circuit) → Gives values circuit (or_of a b circuit) (literal_true values a || literal_true values b)
unfolding or_of
or_of-gives values a b circuit hold =
    let neither = and_of-gives values (negation a) (negation b) circuit hold in
    (neither.0, rw (literal_true-negation, neither.1, literal_true-negation values a, literal_true-negation values b) (not_and (literal_true values a) (literal_true values b)))

pub xor_of-gives : (values : ℕ → Bool) (a b : ℕ) (circuit : Circuit) → Gives values circuit (xor_of a b circuit) (exclusive (literal_true values a) (literal_true values b))
unfolding xor_of
xor_of-gives values a b circuit hold =
    let first = and_of a (negation b) circuit in
    let second = and_of (negation a) b first.1 in
    let r = or_of-gives values first.0 second.0 second.1 hold in
    let q = and_of-gives values (negation a) b first.1 r.0 in
    let p = and_of-gives values a (negation b) circuit q.0 in
    (p.0, rw (r.1, q.1, p.1, literal_true-negation values a, literal_true-negation values b) (by (literal_true values a) (literal_true values b)))
  where
    by : (x y : Bool) → ((x && not y) || (not x && y)) ≡ exclusive x y
    by true true = refl
    by true false = refl
    by false true = refl
    by false false = refl

pub mux_of-gives : (values : ℕ → Bool) (c a b : ℕ) (circuit : Circuit) → Gives values circuit (mux_of c a b circuit) (chosen c a b values)
unfolding mux_of
mux_of-gives values c a b circuit hold =
    let first = and_of c a circuit in
    let second = and_of (negation c) b first.1 in
    let r = or_of-gives values first.0 second.0 second.1 hold in
    let q = and_of-gives values (negation c) b first.1 r.0 in
    let p = and_of-gives values c a circuit q.0 in
    (p.0, rw (r.1, q.1, p.1, literal_true-negation values c) (by (literal_true values c)))
  where
    by : (x : Bool) → ((x && literal_true values a) || (not x && literal_true values b)) ≡ (if x then literal_true values a else literal_true values b)
    by true = or_false (literal_true values a)
    by false = refl

and_assoc : (x y z : Bool) → ((x && y) && z) ≡ (x && (y && z))
and_assoc true y z = refl
and_assoc false y z = refl

or_assoc : (x y z : Bool) → ((x || y) || z) ≡ (x || (y || z))
or_assoc true y z = refl
or_assoc false y z = refl

pub all_from-gives : (values : ℕ → Bool) (all : ℕ) (lits : List ℕ) (circuit : Circuit) → Gives values circuit (all_from all lits circuit) (literal_true values all && list_all (literal_true values) lits)
all_from-gives values all [] circuit hold = (hold, and_true (literal_true values all))
all_from-gives values all (l ∷ lits) circuit hold =
    let next = and_of all l circuit in
    let later = all_from-gives values next.0 lits next.1 hold in
    let now = and_of-gives values all l circuit later.0 in
    (now.0, rw (later.1, now.1) (and_assoc (literal_true values all) (literal_true values l) (list_all (literal_true values) lits)))

pub all_of-gives : (values : ℕ → Bool) (lits : List ℕ) (circuit : Circuit) → Gives values circuit (all_of lits circuit) (list_all (literal_true values) lits)
unfolding all_of
all_of-gives values lits circuit hold =
    let all = all_from-gives values truth lits circuit hold in
    (all.0, all.1 ∙ ap (λ b. b && list_all (literal_true values) lits) (truth-holds values circuit all.0))

pub any_from-gives : (values : ℕ → Bool) (any : ℕ) (lits : List ℕ) (circuit : Circuit) → Gives values circuit (any_from any lits circuit) (literal_true values any || list_any (literal_true values) lits)
any_from-gives values any [] circuit hold = (hold, sym (or_false (literal_true values any)))
any_from-gives values any (l ∷ lits) circuit hold =
    let next = or_of any l circuit in
    let later = any_from-gives values next.0 lits next.1 hold in
    let now = or_of-gives values any l circuit later.0 in
    (now.0, rw (later.1, now.1) (or_assoc (literal_true values any) (literal_true values l) (list_any (literal_true values) lits)))

pub any_of-gives : (values : ℕ → Bool) (lits : List ℕ) (circuit : Circuit) → Gives values circuit (any_of lits circuit) (list_any (literal_true values) lits)
unfolding any_of
any_of-gives values lits circuit hold =
    let any = any_from-gives values falsity lits circuit hold in
    (any.0, any.1 ∙ ap (λ b. not b || list_any (literal_true values) lits) (truth-holds values circuit any.0))

-- ---- What the calls answer

pub Computes-and_of : (a b l : ℕ) (old new : Circuit) → (l, new) ≡ and_of a b old → Computes new l (both a b)
Computes-and_of a b l old new is = Computes-from l old new (and_of a b old) (both a b) is (λ values. and_of-gives values a b old)

pub Computes-or_of : (a b l : ℕ) (old new : Circuit) → (l, new) ≡ or_of a b old → Computes new l (either a b)
Computes-or_of a b l old new is = Computes-from l old new (or_of a b old) (either a b) is (λ values. or_of-gives values a b old)

pub Computes-xor_of : (a b l : ℕ) (old new : Circuit) → (l, new) ≡ xor_of a b old → Computes new l (differ a b)
Computes-xor_of a b l old new is = Computes-from l old new (xor_of a b old) (differ a b) is (λ values. xor_of-gives values a b old)

pub Computes-mux_of : (c a b l : ℕ) (old new : Circuit) → (l, new) ≡ mux_of c a b old → Computes new l (chosen c a b)
Computes-mux_of c a b l old new is = Computes-from l old new (mux_of c a b old) (chosen c a b) is (λ values. mux_of-gives values c a b old)

pub Computes-all_of : (lits : List ℕ) (l : ℕ) (old new : Circuit) → (l, new) ≡ all_of lits old → Computes new l (all_true lits)
Computes-all_of lits l old new is = Computes-from l old new (all_of lits old) (all_true lits) is (λ values. all_of-gives values lits old)

pub Computes-any_of : (lits : List ℕ) (l : ℕ) (old new : Circuit) → (l, new) ≡ any_of lits old → Computes new l (any_true lits)
Computes-any_of lits l old new is = Computes-from l old new (any_of lits old) (any_true lits) is (λ values. any_of-gives values lits old)
