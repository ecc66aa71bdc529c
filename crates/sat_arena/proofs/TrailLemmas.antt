-- What is true as a trail grows and shrinks.
use Rattle.std.proofs.Common.{◌≡◌, ◌≢◌, ℕ, ◌==◌, ◌||◌, ◌≤◌, ◌<◌, ◌+◌, ◌*◌, Bool, true, false, List, [], ◌∷◌, ◌++◌, length, map, set, get_or, take, min, arith, inl, inr, sym, ◌∙◌, ap, subst, refl, get_or-set_same, get_or-set_other, length-set, zero, suc, replicate}
use Rattle.std.specs.Prelude.{All}
use Rattle.std.specs.List.{list_any, IsDistinct, AllPairs, Any}
use Rattle.std.proofs.lemmas.Bool.{cases_eq, cases_order, or_parts, or_cases, eq-eqb, ne_eqb, eqb-true, eqb-false, or_right, false≢true}
use Rattle.std.proofs.lemmas.List.{length-map, length_push, length-take, get_or-take, get_or_default, get_or_push, get_or_append_left, take_all}
use Rattle.std.proofs.lemmas.Map.Steps.{length-le_from_distinct_below}
use Rattle.std.proofs.lemmas.List.Folds.{list_any-append, Any-from_list_any}
use Rattle.std.proofs.lemmas.List.Elements.{All-cons, All-nil, All-tail, All-push, All-map, All-from_get_or, recursion_from_All}
use Rattle.std.proofs.lemmas.List.Quantifiers.{all_pairs_push}
use Rattle.sat_lits.specs.Literals.{negation, variable_of}
use Rattle.sat_arena.specs.declared.trail.Assigned.{Assigned}
use Rattle.sat_arena.specs.Justified.{HasPositions}
use Rattle.sat_arena.specs.Trails.{true_in, marked, IsGrown, IsOrderly, KeepsTogether}

abbrev pub HaveTwoVariables : Assigned → Assigned → Type 0
HaveTwoVariables e f = variable_of e.lit ≢ variable_of f.lit

-- ---- Variables

same_variable : (a b : ℕ) → variable_of a ≡ variable_of b → (a ≡ b → ⊥) → (a ≡ negation b → ⊥) → ⊥
same_variable a b e ne ne' = omega arith

-- a literal that is neither true nor false has a variable of its own
other_variables : (entries : List Assigned) (l : ℕ) → true_in entries l ≡ false → true_in entries (negation l) ≡ false → All (λ e. variable_of e.lit ≢ variable_of l) entries
other_variables [] l p q = All-nil (λ (e : Assigned). variable_of e.lit ≢ variable_of l)
other_variables (e ∷ es) l p q =
    let left = or_parts (e.lit == l) (true_in es l) p in
    let right = or_parts (e.lit == negation l) (true_in es (negation l)) q in
    All-cons (λ (e : Assigned). variable_of e.lit ≢ variable_of l) e es
    (λ same. same_variable e.lit l same (eqb-false e.lit l left.0) (eqb-false e.lit (negation l) right.0))
    (other_variables es l left.1 right.1)

pub tail_pairs : (R : Assigned → Assigned → Type 0) (e : Assigned) (es : List Assigned) → AllPairs R (e ∷ es) → AllPairs R es
tail_pairs R e es pairs i j d before within = pairs (suc i) (suc j) d (omega arith) (omega arith)

pub head_pairs : (R : Assigned → Assigned → Type 0) (e : Assigned) (es : List Assigned) → AllPairs R (e ∷ es) → All (R e) es
head_pairs R e es pairs = All-from_get_or (R e) es e (λ i within. pairs 0 (suc i) e (omega arith) (omega arith))

distinct : (entries : List Assigned) → AllPairs HaveTwoVariables entries → IsDistinct (λ x y. x == y) (map (λ e. variable_of e.lit) entries)
unfolding IsDistinct
distinct [] apart = tt
distinct (e ∷ es) apart = (
  recursion_from_All (λ y. (variable_of e.lit == y) ≡ false) (map (λ f. variable_of f.lit) es)
      (All-map (λ y. (variable_of e.lit == y) ≡ false) (λ (f : Assigned). variable_of f.lit) es
      (λ k d within. ne_eqb (variable_of e.lit) (variable_of (get_or es k d).lit) (head_pairs HaveTwoVariables e es apart k d within))),
  distinct es (tail_pairs HaveTwoVariables e es apart),
)

variables_within : (entries : List Assigned) (vars : ℕ) → All (λ e. IsGrown vars e.lit) entries → (q : ℕ) → list_any (λ x. q == x) (map (λ e. variable_of e.lit) entries) ≡ true → q < vars + 1
variables_within [] vars within q e = absurd (false≢true e)
variables_within (f ∷ fs) vars within q e = elim (or_cases (q == variable_of f.lit) (list_any (λ x. q == x) (map (λ e. variable_of e.lit) fs)) e) [
  | inl here ↦ (let same : q ≡ variable_of f.lit = eqb-true q (variable_of f.lit) here in
      let low : variable_of f.lit ≤ vars = (within 0 f (omega arith)).1 in omega arith)
  | inr later ↦ variables_within fs vars (All-tail (λ (e : Assigned). IsGrown vars e.lit) f fs within) q later
]

-- there are no more entries than variables
pub few_entries : (entries : List Assigned) (vars : ℕ) → IsOrderly entries vars → length entries ≤ vars + 1
few_entries entries vars orderly =
    let top : length (map (λ (e : Assigned). variable_of e.lit) entries) ≤ vars + 1
    = length-le_from_distinct_below (map (λ e. variable_of e.lit) entries) (vars + 1) (distinct entries orderly.apart) (variables_within entries vars orderly.within) in
    let same : length (map (λ (e : Assigned). variable_of e.lit) entries) ≡ length entries = length-map entries (λ e. variable_of e.lit) in
    omega arith

-- ---- One more entry

pub IsOrderly-push : (entries : List Assigned) (entry : Assigned) (vars : ℕ) → IsOrderly entries vars → IsGrown vars entry.lit → true_in entries entry.lit ≡ false → true_in entries (negation entry.lit) ≡ false → All (λ e. e.level ≤ entry.level) entries → IsOrderly (entries ++ entry ∷ []) vars
IsOrderly-push entries entry vars orderly grown p q current_level = record {
  apart = all_pairs_push HaveTwoVariables entries entry orderly.apart (λ k d within. other_variables entries entry.lit p q k d within);
  rising = all_pairs_push (λ e f. e.level ≤ f.level) entries entry orderly.rising (λ k d within. current_level k d within);
  within = All-push (λ (e : Assigned). IsGrown vars e.lit) entries entry orderly.within grown;
}

-- a literal that may be pushed leaves room for itself
pub room_to_push : (entries : List Assigned) (entry : Assigned) (vars : ℕ) → IsOrderly entries vars → IsGrown vars entry.lit → true_in entries entry.lit ≡ false → true_in entries (negation entry.lit) ≡ false → All (λ e. e.level ≤ entry.level) entries → length entries < vars + 1
room_to_push entries entry vars orderly grown p q current_level =
    let top : length (entries ++ entry ∷ []) ≤ vars + 1 = few_entries (entries ++ entry ∷ []) vars (IsOrderly-push entries entry vars orderly grown p q current_level) in
    let one : length (entries ++ entry ∷ []) ≡ length entries + 1 = length_push entries entry in
    omega arith

or_none : (b : Bool) → (b || false) ≡ b
or_none true = refl
or_none false = refl

pub true_in-push : (entries : List Assigned) (entry : Assigned) (l : ℕ) → true_in (entries ++ entry ∷ []) l ≡ (true_in entries l || (entry.lit == l))
true_in-push entries entry l = list_any-append (λ e. e.lit == l) entries (entry ∷ []) ∙ ap (λ b. true_in entries l || b) (or_none (entry.lit == l))

marked-push : (entries : List Assigned) (entry : Assigned) (truth : List Bool) → ((l : ℕ) → marked truth l ≡ true_in entries l) → entry.lit < length truth → (l : ℕ) → marked (set truth entry.lit true) l ≡ true_in (entries ++ entry ∷ []) l
marked-push entries entry truth same h l = elim (cases_eq l entry.lit) [
  | inl e ↦
      ap (λ n. get_or (set truth entry.lit true) n false) e ∙ get_or-set_same truth entry.lit true false h
      ∙ sym (true_in-push entries entry l ∙ or_right (true_in entries l) (entry.lit == l) (eq-eqb entry.lit l (sym e)))
  | inr ne ↦
      get_or-set_other truth entry.lit l true false ne ∙ same l
      ∙ sym (true_in-push entries entry l ∙ ap (λ b. true_in entries l || b) (ne_eqb entry.lit l (λ e. ne (sym e))) ∙ or_none (true_in entries l))
]

positions-push : (entries : List Assigned) (entry : Assigned) (positions : List ℕ) (vars : ℕ) → All (λ e. variable_of e.lit ≢ variable_of entry.lit) entries → variable_of entry.lit < length positions → ((i : ℕ) (d : Assigned) → i < length entries → get_or positions (variable_of (get_or entries i d).lit) 0 ≡ i) → (i : ℕ) (d : Assigned) → i < length (entries ++ entry ∷ []) → get_or (set positions (variable_of entry.lit) (length entries)) (variable_of (get_or (entries ++ entry ∷ []) i d).lit) 0 ≡ i
positions-push entries entry positions vars others room are i d within =
    let long : length (entries ++ entry ∷ []) ≡ length entries + 1 = length_push entries entry in
    elim (cases_eq i (length entries)) [
      | inl last ↦
          ap (λ (e : Assigned). get_or (set positions (variable_of entry.lit) (length entries)) (variable_of e.lit) 0) (get_or_push entries entry d i (sym last))
          ∙ get_or-set_same positions (variable_of entry.lit) (length entries) 0 room ∙ sym last
      | inr before ↦
          (let inside : i < length entries = omega arith in
          ap (λ (e : Assigned). get_or (set positions (variable_of entry.lit) (length entries)) (variable_of e.lit) 0) (get_or_append_left entries (entry ∷ []) d i inside)
          ∙ get_or-set_other positions (variable_of entry.lit) (variable_of (get_or entries i d).lit) (length entries) 0 (others i d inside)
          ∙ are i d inside)
    ]

pub KeepsTogether-push : (entries : List Assigned) (entry : Assigned) (truth : List Bool) (positions : List ℕ) (vars capacity capacity' : ℕ) → KeepsTogether entries truth positions vars capacity → capacity ≤ capacity' → IsGrown vars entry.lit → true_in entries entry.lit ≡ false → true_in entries (negation entry.lit) ≡ false → All (λ e. e.level ≤ entry.level) entries → KeepsTogether (entries ++ entry ∷ []) (set truth entry.lit true) (set positions (variable_of entry.lit) (length entries)) vars capacity'
KeepsTogether-push entries entry truth positions vars capacity capacity' kept more grown p q current_level =
    let some : 0 < vars = omega (arith, grown.0, grown.1) in
    let room : 2 * vars + 2 ≤ length truth = kept.set_room some in
    record {
      orderly = IsOrderly-push entries entry vars kept.orderly grown p q current_level;
      literal_set = marked-push entries entry truth kept.literal_set (omega (arith, grown.1));
      positions_are = positions-push entries entry positions vars (other_variables entries entry.lit p q) (omega (arith, grown.1, kept.positions_room some)) kept.positions_are;
      positions_room = λ some. omega (arith, kept.positions_room some, length-set positions (variable_of entry.lit) (length entries));
      set_room = λ _. (let same : length (set truth entry.lit true) ≡ length truth = length-set truth entry.lit true in omega arith);
      set_fits = (let same : length (set truth entry.lit true) ≡ length truth = length-set truth entry.lit true in omega (arith, kept.set_fits));
      reserved = λ some. (let old : vars + 1 ≤ capacity = kept.reserved some in omega arith);
    }

-- ---- Consistency

variable_of-negation : (l : ℕ) → variable_of (negation l) ≡ variable_of l
variable_of-negation l = omega arith

not_own_negation : (l : ℕ) → l ≡ negation l → ⊥
not_own_negation l e = omega arith

-- two true literals of one variable are one
pub one_by_variable : (entries : List Assigned) → AllPairs HaveTwoVariables entries → (l m : ℕ) → true_in entries l ≡ true → true_in entries m ≡ true → variable_of l ≡ variable_of m → l ≡ m
one_by_variable entries apart l m p q same =
    let first : Any (λ (e : Assigned). (e.lit == l) ≡ true) entries = Any-from_list_any (λ (e : Assigned). e.lit == l) entries p in
    let second : Any (λ (e : Assigned). (e.lit == m) ≡ true) entries = Any-from_list_any (λ (e : Assigned). e.lit == m) entries q in
    let here : first.1.lit ≡ l = eqb-true first.1.lit l first.4 in
    let there : second.1.lit ≡ m = eqb-true second.1.lit m second.4 in
    let at_first : (get_or entries first.0 first.1).lit ≡ l = ap (λ e. e.lit) first.3 ∙ here in
    let at_second : (get_or entries second.0 first.1).lit ≡ m = ap (λ e. e.lit) (get_or_default entries second.0 first.1 second.1 second.2 ∙ second.3) ∙ there in
    elim (cases_order first.0 second.0) [
      | inl e ↦ sym at_first ∙ ap (λ k. (get_or entries k first.1).lit) e ∙ at_second
      | inr order ↦ elim order [
        | inl below ↦ absurd (apart first.0 second.0 first.1 below second.2 (ap variable_of at_first ∙ same ∙ sym (ap variable_of at_second)))
        | inr above ↦ absurd (apart second.0 first.0 first.1 above first.2 (ap variable_of at_second ∙ sym same ∙ sym (ap variable_of at_first)))
      ]
    ]

-- no literal is true beside its negation
pub consistent : (entries : List Assigned) (vars : ℕ) → IsOrderly entries vars → (l : ℕ) → true_in entries l ≡ true → true_in entries (negation l) ≡ true → ⊥
consistent entries vars orderly l p q = not_own_negation l (one_by_variable entries orderly.apart l (negation l) p q (sym (variable_of-negation l)))

-- ---- The empty trail, and room for more variables

marked-beyond : (truth : List Bool) (n l : ℕ) → marked (truth ++ replicate n false) l ≡ marked truth l
marked-beyond [] zero l = refl
marked-beyond [] (suc n) zero = refl
marked-beyond [] (suc n) (suc l) = marked-beyond [] n l
marked-beyond (b ∷ bs) n zero = refl
marked-beyond (b ∷ bs) n (suc l) = marked-beyond bs n l

-- room for more positions
pub KeepsTogether-positions : (entries : List Assigned) (truth : List Bool) (positions positions' : List ℕ) (vars capacity n m : ℕ) → KeepsTogether entries truth positions vars capacity → positions' ≡ take n positions ++ replicate m 0 → length positions' ≡ n → vars + 1 ≤ n → KeepsTogether entries truth positions' vars capacity
KeepsTogether-positions entries truth positions positions' vars capacity n m kept is long room = record {
  orderly = kept.orderly;
  literal_set = kept.literal_set;
  positions_are = λ i d within.
      let v = variable_of (get_or entries i d).lit in
      let grown : IsGrown vars (get_or entries i d).lit = kept.orderly.within i d within in
      let below : v < length positions = omega (arith, grown.0, grown.1, kept.positions_room (omega (arith, grown.0, grown.1))) in
      let short : length (take n positions) ≡ min n (length positions) = length-take n positions in
      let first : get_or positions' v 0 ≡ get_or (take n positions ++ replicate m 0) v 0 = ap (λ ps. get_or ps v 0) is in
      first ∙ get_or_append_left (take n positions) (replicate m 0) 0 v (omega (arith, grown.1)) ∙ get_or-take n positions v 0 (omega (arith, grown.1)) ∙ kept.positions_are i d within;
  set_room = kept.set_room;
  set_fits = kept.set_fits;
  positions_room = λ _. omega arith;
  reserved = kept.reserved;
}

pub KeepsTogether-capacity : (entries : List Assigned) (truth : List Bool) (positions : List ℕ) (vars capacity capacity' : ℕ) → KeepsTogether entries truth positions vars capacity → capacity ≤ capacity' → KeepsTogether entries truth positions vars capacity'
KeepsTogether-capacity entries truth positions vars capacity capacity' kept more = record {
  orderly = kept.orderly;
  literal_set = kept.literal_set;
  positions_are = kept.positions_are;
  set_room = kept.set_room;
  set_fits = kept.set_fits;
  positions_room = kept.positions_room;
  reserved = λ some. (let old : vars + 1 ≤ capacity = kept.reserved some in omega arith);
}

pub KeepsTogether-grow : (entries : List Assigned) (truth truth' : List Bool) (positions : List ℕ) (vars vars' capacity capacity' n : ℕ) → KeepsTogether entries truth positions vars capacity → vars ≤ vars' → truth' ≡ take (2 * vars' + 2) truth ++ replicate n false → length truth' ≡ 2 * vars' + 2 → vars' + 1 ≤ length positions → vars' + 1 ≤ capacity' → KeepsTogether entries truth' positions vars' capacity'
KeepsTogether-grow entries truth truth' positions vars vars' capacity capacity' n kept more is literal_set long room =
    let whole : take (2 * vars' + 2) truth ≡ truth = take_all (2 * vars' + 2) truth (omega (arith, kept.set_fits)) in
    record {
      orderly = record {
        apart = kept.orderly.apart;
        rising = kept.orderly.rising;
        within = λ k d h. ((kept.orderly.within k d h).0, omega (arith, (kept.orderly.within k d h).1));
      };
      literal_set = λ l. ap (λ t. marked t l) (is ∙ ap (λ t. t ++ replicate n false) whole) ∙ marked-beyond truth n l ∙ kept.literal_set l;
      positions_are = kept.positions_are;
      positions_room = λ _. long;
      set_room = λ _. omega arith;
      set_fits = omega arith;
      reserved = λ _. room;
    }

-- ---- Positions

-- the table of a trail has the position of each entry
pub has_positions : (entries : List Assigned) (truth : List Bool) (positions : List ℕ) (vars capacity : ℕ) → KeepsTogether entries truth positions vars capacity → HasPositions entries positions
has_positions entries truth positions vars capacity keeps i entry at =
    let grown : IsGrown vars entry.lit = subst (λ (e : Assigned). IsGrown vars e.lit) at.1 (keeps.orderly.within i entry at.0) in
    let room : vars + 1 ≤ length positions = keeps.positions_room (omega (arith, grown.0, grown.1)) in (
      omega (arith, room, grown.1),
      subst (λ (e : Assigned). get_or positions (variable_of e.lit) 0 ≡ i) at.1 (keeps.positions_are i entry at.0),
    )
