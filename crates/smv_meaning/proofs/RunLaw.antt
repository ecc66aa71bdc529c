-- The check of a list of states answers Run exactly where they are a run.
use Rattle.std.proofs.Common.{◌≡◌, ◌↔◌, ℕ, suc, ◌<◌, Bool, true, false, ◌&&◌, List, [], ◌∷◌, length, map, Option, Some, None, is_none, All, refl, sym, ap, ◌∙◌, arith}
use Rattle.std.proofs.lemmas.Bool.{and_parts}
use Rattle.std.specs.List.{list_all}
use Rattle.std.specs.Cmp.Derive.{both_true}
use Rattle.std.proofs.lemmas.List.Elements.{All-cons}
use Rattle.smv_ast.specs.declared.syntax.Span.{Span}
use Rattle.smv_ast.specs.declared.program.Program.{Program}
use Rattle.smv_meaning.specs.declared.run.RunState.{RunState}
use Rattle.smv_meaning.specs.declared.run.RunAnswer.{RunAnswer}
use Rattle.smv_meaning.specs.declared.run.RunAnswer.TheVariants as answer
use Rattle.smv_meaning.specs.Instances.{Instance, module_at, instances}
use Rattle.smv_meaning.specs.Items.{Item, items, at_of}
use Rattle.smv_meaning.specs.Values.{State}
use Rattle.smv_meaning.specs.Runs.{begins, stays, steps, each_item, meets, unless_met, or_else, first_fault, broken_at, first_broken, answer_from, answer_of, state_of, IsState, IsExactState, GoesOn, IsRun}
use Rattle.smv_meaning.proofs.StateLemmas.{exact_state}

-- ---- tests on lists

in_pairs : (a b c d : Bool) → ((a && b) && (c && d)) ≡ ((a && c) && (b && d))
in_pairs true true c d = refl
in_pairs true false true d = refl
in_pairs true false false d = refl
in_pairs false b c d = refl

all_alike : {A : Type 0} (p q : A → Bool) → ((a : A) → p a ≡ q a) → (xs : List A) → list_all p xs ≡ list_all q xs
all_alike p q same [] = refl
all_alike p q same (x ∷ more) = ap (λ b. b && list_all p more) (same x) ∙ ap (λ b. q x && b) (all_alike p q same more)

all_both : {A : Type 0} (p q : A → Bool) (xs : List A) → list_all (λ a. p a && q a) xs ≡ (list_all p xs && list_all q xs)
all_both p q [] = refl
all_both p q (x ∷ more) = ap (λ b. (p x && q x) && b) (all_both p q more) ∙ in_pairs (p x) (q x) (list_all p more) (list_all q more)

-- ---- defined values

none_unmet : (b : Bool) (at : Span) → is_none (unless_met b at) ≡ b
none_unmet true at = refl
none_unmet false at = refl

none_else : {B : Type 0} (a b : Option B) → is_none (or_else a b) ≡ (is_none a && is_none b)
none_else None b = refl
none_else (Some x) b = refl

none_known : {A B : Type 0} (transfer : A → Option B) (xs : List A) → is_none (first_fault transfer xs) ≡ list_all (λ a. is_none (transfer a)) xs
none_known transfer [] = refl
none_known transfer (x ∷ more) = none_else (transfer x) (first_fault transfer more) ∙ ap (λ b. is_none (transfer x) && b) (none_known transfer more)

-- ---- one state

-- the answer on a list of states, given the first broken item of its first state and the answer on
-- the rest
abbrev answer_with : ℕ → RunAnswer → Option Span → RunAnswer
answer_with step tail o = elim o as (λ o. RunAnswer) [ Some at ↦ answer.Breaks step at | None ↦ tail ]

-- the answer is Run exactly where two tests on the first state pass and the answer on the rest is
-- Run
first_passes : {S P : Type 0} (step : ℕ) (tail : RunAnswer) (o : Option Span) (a b : Bool) → is_none o ≡ (a && b) → S → ((tail ≡ answer.Run) ↔ P) → (answer_with step tail o ≡ answer.Run) ↔ (S × (a ≡ true) × (b ≡ true) × P)
first_passes step tail None a b none s law =
    let parts = and_parts a b (sym none) in
    (λ e. (s, parts.0, parts.1, law.0 e), λ h. law.1 h.3)
first_passes step tail (Some at) a b none s law = (λ e. cc, λ h. let both : (a && b) ≡ true = both_true h.1 h.2 in cc)

-- ---- items

module _ (program : Program) where
  -- no item is broken exactly where each is met
  none_broken : (before : Option State) (s : State) → is_none (first_broken program before s) ≡ each_item program (meets program before s)
  none_broken before s =
      none_known (λ instance. first_fault (broken_at program before s instance) (items (module_at program instance))) (instances program)
      ∙ all_alike (λ instance. is_none (first_fault (broken_at program before s instance) (items (module_at program instance)))) (λ instance. list_all (λ item. meets program before s instance item) (items (module_at program instance))) in_instance (instances program)
    where
      in_instance : (instance : Instance) → is_none (first_fault (broken_at program before s instance) (items (module_at program instance))) ≡ list_all (λ item. meets program before s instance item) (items (module_at program instance))
      in_instance instance =
          none_known (broken_at program before s instance) (items (module_at program instance))
          ∙ all_alike (λ item. is_none (broken_at program before s instance item)) (λ item. meets program before s instance item) (λ item. none_unmet (meets program before s instance item) (at_of item)) (items (module_at program instance))

  -- each item passes both tests exactly where each passes the one and each the other
  each_both : (f g : Instance → Item → Bool) → each_item program (λ instance d. f instance d && g instance d) ≡ (each_item program f && each_item program g)
  each_both f g =
      all_alike (λ instance. list_all (λ item. f instance item && g instance item) (items (module_at program instance))) (λ instance. list_all (λ item. f instance item) (items (module_at program instance)) && list_all (λ item. g instance item) (items (module_at program instance)))
      (λ instance. all_both (λ item. f instance item) (λ item. g instance item) (items (module_at program instance))) (instances program)
      ∙ all_both (λ instance. list_all (λ item. f instance item) (items (module_at program instance))) (λ instance. list_all (λ item. g instance item) (items (module_at program instance))) (instances program)

  -- nothing is broken in a first state exactly where it meets the init constraints and the
  -- invariants
  begins_right : (s : State) → is_none (first_broken program None s) ≡ (each_item program (λ instance. begins program instance s) && each_item program (λ instance. stays program instance s))
  begins_right s = none_broken None s ∙ each_both (λ instance. begins program instance s) (λ instance. stays program instance s)

  -- nothing is broken in a later state exactly where it meets the invariants and follows by a step
  goes_right : (s t : State) → is_none (first_broken program (Some s) t) ≡ (each_item program (λ instance. stays program instance t) && each_item program (λ instance. steps program instance s t))
  goes_right s t = none_broken (Some s) t ∙ each_both (λ instance. stays program instance t) (λ instance. steps program instance s t)

  -- ---- answers

  goes_on : (step : ℕ) (s : State) (states : List State) → All (IsExactState program) states → (answer_from program step (Some s) states ≡ answer.Run) ↔ GoesOn program s states
  goes_on step s [] are = (λ e. tt, λ goes. refl)
  goes_on step s (t ∷ more) are =
      first_passes step (answer_from program (suc step) (Some t) more) (first_broken program (Some s) t) (each_item program (λ instance. stays program instance t)) (each_item program (λ instance. steps program instance s t))
      (goes_right s t) (are 0 t (omega arith)) (goes_on (suc step) t more (λ k d h. are (suc k) d (omega arith)))

  is_run : (s : State) (more : List State) → All (IsExactState program) (s ∷ more) → (answer_from program 0 None (s ∷ more) ≡ answer.Run) ↔ IsRun program (s ∷ more)
  is_run s more are =
      first_passes 0 (answer_from program 1 (Some s) more) (first_broken program None s) (each_item program (λ instance. begins program instance s)) (each_item program (λ instance. stays program instance s))
      (begins_right s) (are 0 s (omega arith)) (goes_on 1 s more (λ k d h. are (suc k) d (omega arith)))

  exact_states : (states : List RunState) → All (IsState program) (map (state_of program) states) → All (IsExactState program) (map (state_of program) states)
  exact_states [] are = λ k d h. absurd (omega arith)
  exact_states (w ∷ more) are = All-cons (IsExactState program) (state_of program w) (map (state_of program) more) (exact_state program w (are 0 (state_of program w) (omega arith))) (exact_states more (λ k d h. are (suc k) d (omega arith)))

  -- the answer on a written run is Run exactly where its states are a run, if there are any and
  -- each gives each variable a value of its type
  pub run_law : (states : List RunState) (a : RunAnswer) → a ≡ answer_of program states → 0 < length states → All (IsState program) (map (state_of program) states) → (a ≡ answer.Run) ↔ IsRun program (map (state_of program) states)
  run_law [] a e some are = absurd (omega (arith, some))
  run_law (w ∷ more) a e some are =
      let law = is_run (state_of program w) (map (state_of program) more) (exact_states (w ∷ more) are) in
      (λ run. law.0 (sym e ∙ run), λ run. e ∙ law.1 run)
