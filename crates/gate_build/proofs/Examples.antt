-- What the definitions give on small circuits, worked out by hand. A literal is twice its variable, and one more where
-- it is negative: 4 is variable 2, and 5 its negation.
use Rattle.std.proofs.Common.{◌≡◌, ◌==◌, true, false, [], ◌∷◌, refl, arith}
use Rattle.gate_build.specs.Circuits.{no_gates, constant, clauses_of, IsInput, IsSound, Extends}
use Rattle.gate_build.specs.Meaning.{both, either, differ, chosen, all_true, any_true}
use Rattle.gate_build.specs.Numbering.{input_of, simplified, and_of, or_of, xor_of, mux_of, all_of, any_of}

-- ---- Inputs
-- the first input is variable 2
first_input : input_of no_gates ≡ (4, record { vars = 2; gates = [] })
unfolding input_of
first_input = refl

second_input : input_of (input_of no_gates).1 ≡ (6, record { vars = 3; gates = [] })
unfolding input_of
second_input = refl

-- ---- Conjunctions of variables 2 and 3
-- variable 4, a new gate
new_gate : and_of 4 6 (record { vars = 3; gates = [] }) ≡ (8, record { vars = 4; gates = ((4, 6), 8) ∷ [] })
unfolding and_of simplified
new_gate = refl

new_gate_exchanged : and_of 6 4 (record { vars = 3; gates = [] }) ≡ (8, record { vars = 4; gates = ((4, 6), 8) ∷ [] })
unfolding and_of simplified
new_gate_exchanged = refl

-- asked again, the same gate
shared_gate : and_of 4 6 (record { vars = 4; gates = ((4, 6), 8) ∷ [] }) ≡ (8, record { vars = 4; gates = ((4, 6), 8) ∷ [] })
unfolding and_of simplified
shared_gate = refl

shared_gate_exchanged : and_of 6 4 (record { vars = 4; gates = ((4, 6), 8) ∷ [] }) ≡ (8, record { vars = 4; gates = ((4, 6), 8) ∷ [] })
unfolding and_of simplified
shared_gate_exchanged = refl

-- the negation of variable 2 has a gate of its own
other_gate : and_of 5 6 (record { vars = 4; gates = ((4, 6), 8) ∷ [] }) ≡ (10, record { vars = 5; gates = ((4, 6), 8) ∷ ((5, 6), 10) ∷ [] })
unfolding and_of simplified
other_gate = refl

-- nothing is made for what needs no gate
opposite : and_of 4 5 (record { vars = 3; gates = [] }) ≡ (3, (record { vars = 3; gates = [] }))
unfolding and_of simplified
opposite = refl

opposite_exchanged : and_of 5 4 (record { vars = 3; gates = [] }) ≡ (3, (record { vars = 3; gates = [] }))
unfolding and_of simplified
opposite_exchanged = refl

with_false : and_of 4 3 (record { vars = 3; gates = [] }) ≡ (3, (record { vars = 3; gates = [] }))
unfolding and_of simplified
with_false = refl

false_with : and_of 3 4 (record { vars = 3; gates = [] }) ≡ (3, (record { vars = 3; gates = [] }))
unfolding and_of simplified
false_with = refl

with_true : and_of 7 2 (record { vars = 3; gates = [] }) ≡ (7, (record { vars = 3; gates = [] }))
unfolding and_of simplified
with_true = refl

true_with : and_of 2 7 (record { vars = 3; gates = [] }) ≡ (7, (record { vars = 3; gates = [] }))
unfolding and_of simplified
true_with = refl

equal : and_of 6 6 (record { vars = 3; gates = [] }) ≡ (6, (record { vars = 3; gates = [] }))
unfolding and_of simplified
equal = refl

both_true : and_of 2 2 (record { vars = 3; gates = [] }) ≡ (2, (record { vars = 3; gates = [] }))
unfolding and_of simplified
both_true = refl

-- ---- Clauses
-- variable 1 is true, and an input has no clause
clauses_of_inputs : clauses_of (record { vars = 3; gates = [] }) ≡ (2 ∷ []) ∷ []
clauses_of_inputs = refl

-- the gate 4 of variable 2 and the negation of 3: `2 -4`, `-3 -4`, `-2 3 4`
clauses_of_a_gate : clauses_of (record { vars = 4; gates = ((4, 7), 8) ∷ [] }) ≡ (2 ∷ []) ∷ (4 ∷ 9 ∷ []) ∷ (7 ∷ 9 ∷ []) ∷ (5 ∷ 6 ∷ 8 ∷ []) ∷ []
clauses_of_a_gate = refl

-- ---- Connectives
-- the negation of variable 4, the conjunction of the negations
disjunction : or_of 4 6 (record { vars = 3; gates = [] }) ≡ (9, record { vars = 4; gates = ((5, 7), 8) ∷ [] })
unfolding and_of simplified or_of
disjunction = refl

-- 2 without 3 is variable 4, 3 without 2 is 5, and neither of these is 6
difference : xor_of 4 6 (record { vars = 3; gates = [] }) ≡ (13, record { vars = 6; gates = ((4, 7), 8) ∷ ((5, 6), 10) ∷ ((9, 11), 12) ∷ [] })
unfolding and_of simplified or_of xor_of
difference = refl

-- variable 3 where 2 is true, and otherwise 4
choice : mux_of 4 6 8 (record { vars = 4; gates = [] }) ≡ (15, record { vars = 7; gates = ((4, 6), 10) ∷ ((5, 8), 12) ∷ ((11, 13), 14) ∷ [] })
unfolding and_of simplified or_of mux_of
choice = refl

-- after the difference of 2 and 3: 3 without 2 has a gate
shared_choice : mux_of 4 6 6 (record { vars = 6; gates = ((4, 7), 8) ∷ ((5, 6), 10) ∷ ((9, 11), 12) ∷ [] }) ≡ (17, record { vars = 8; gates = ((4, 7), 8) ∷ ((5, 6), 10) ∷ ((9, 11), 12) ∷ ((4, 6), 14) ∷ ((11, 15), 16) ∷ [] })
unfolding and_of simplified or_of mux_of
shared_choice = refl

-- ---- Lists
all_of_none : all_of [] (record { vars = 3; gates = [] }) ≡ (2, (record { vars = 3; gates = [] }))
unfolding all_of
all_of_none = refl

-- 2 with 3 is variable 5, and that with 4 is 6
all_of_three : all_of (4 ∷ 6 ∷ 8 ∷ []) (record { vars = 4; gates = [] }) ≡ (12, record { vars = 6; gates = ((4, 6), 10) ∷ ((8, 10), 12) ∷ [] })
unfolding and_of simplified all_of
all_of_three = refl

any_of_none : any_of [] (record { vars = 3; gates = [] }) ≡ (3, (record { vars = 3; gates = [] }))
unfolding any_of
any_of_none = refl

-- neither 2 nor 3 is variable 5, and neither that nor 4 is 6
any_of_three : any_of (4 ∷ 6 ∷ 8 ∷ []) (record { vars = 4; gates = [] }) ≡ (13, record { vars = 6; gates = ((5, 7), 10) ∷ ((9, 10), 12) ∷ [] })
unfolding and_of simplified or_of any_of
any_of_three = refl

-- ---- Truth, where variable 2 is the only true one
both_1 : both 4 7 (λ v. v == 2) ≡ true
both_1 = refl

both_2 : both 4 6 (λ v. v == 2) ≡ false
both_2 = refl

both_3 : both 5 4 (λ v. v == 2) ≡ false
both_3 = refl

both_4 : both 6 8 (λ v. v == 2) ≡ false
both_4 = refl

either_1 : either 4 6 (λ v. v == 2) ≡ true
either_1 = refl

either_2 : either 6 4 (λ v. v == 2) ≡ true
either_2 = refl

either_3 : either 6 8 (λ v. v == 2) ≡ false
either_3 = refl

either_4 : either 7 8 (λ v. v == 2) ≡ true
either_4 = refl

differ_1 : differ 4 6 (λ v. v == 2) ≡ true
differ_1 = refl

differ_2 : differ 6 4 (λ v. v == 2) ≡ true
differ_2 = refl

differ_3 : differ 4 7 (λ v. v == 2) ≡ false
differ_3 = refl

differ_4 : differ 6 8 (λ v. v == 2) ≡ false
differ_4 = refl

chosen_1 : chosen 4 6 7 (λ v. v == 2) ≡ false
chosen_1 = refl

chosen_2 : chosen 6 6 7 (λ v. v == 2) ≡ true
chosen_2 = refl

chosen_3 : chosen 5 4 6 (λ v. v == 2) ≡ false
chosen_3 = refl

all_true_1 : all_true (4 ∷ 7 ∷ []) (λ v. v == 2) ≡ true
all_true_1 = refl

all_true_2 : all_true (4 ∷ 6 ∷ []) (λ v. v == 2) ≡ false
all_true_2 = refl

all_true_3 : all_true [] (λ v. v == 2) ≡ true
all_true_3 = refl

any_true_1 : any_true (6 ∷ 4 ∷ []) (λ v. v == 2) ≡ true
any_true_1 = refl

any_true_2 : any_true (6 ∷ 5 ∷ []) (λ v. v == 2) ≡ false
any_true_2 = refl

any_true_3 : any_true [] (λ v. v == 2) ≡ false
any_true_3 = refl

constants_1 : constant true ≡ 2
constants_1 = refl

constants_2 : constant false ≡ 3
constants_2 = refl

-- ---- Circuits that no calls make

-- a gate whose operands stand in the other order
not_sorted : IsSound (record { vars = 4; gates = ((6, 4), 8) ∷ [] }) → ⊥
not_sorted sound = omega (arith, sound.in_order.0.apart)

-- a gate whose output is one of its operands
on_itself : IsSound (record { vars = 3; gates = ((4, 6), 6) ∷ [] }) → ⊥
on_itself sound = omega (arith, sound.in_order.0.above)

-- a gate over variable 1
over_constant : IsSound (record { vars = 4; gates = ((2, 6), 8) ∷ [] }) → ⊥
over_constant sound = omega (arith, sound.in_order.0.no_constant)

-- two gates with one output
same_output : IsSound (record { vars = 4; gates = ((4, 6), 8) ∷ ((5, 6), 8) ∷ [] }) → ⊥
same_output sound = omega (arith, sound.in_order.1.0.new)

-- an output that is not made
not_made : IsSound (record { vars = 3; gates = ((4, 6), 8) ∷ [] }) → ⊥
not_made sound = omega (arith, sound.in_order.1)

-- an extension without the old gate
lost_gate : Extends (record { vars = 4; gates = ((4, 6), 8) ∷ [] }) (record { vars = 4; gates = [] }) → ⊥
lost_gate extends = absurd (cc (extends.gates))

-- the output of a gate is no input
no_input : IsInput (record { vars = 4; gates = ((4, 6), 8) ∷ [] }) 4 → ⊥
no_input input = input.no_output 0 ((4, 6), 8) (omega arith) refl
