-- The node of a right side is true exactly where the right side allows the value of the variable.
use Rattle.std.proofs.Common.{◌≡◌, ℕ, zero, suc, Bool, true, false, List, Option, Some, None, refl, sym, subst, ℤ}
use Rattle.smv_ast.specs.declared.syntax.Expr.{Expr, Expr-F, out-Expr, fold_out-Expr, map-Expr}
use Rattle.smv_ast.specs.declared.syntax.Choice.{Choice, out-Choice, fold_out-Choice}
use Rattle.smv_ast.specs.declared.syntax.Branch.{Branch}
use Rattle.smv_meaning.specs.declared.value.Value.{Value}
use Rattle.smv_meaning.specs.Value.{and_then}
use Rattle.smv_meaning.specs.Slots.{HasSlots}
use Rattle.smv_meaning.specs.Denotations.{Environment, Allowed, Denotation, BranchDenotation, denotation_of, choice_allows, branch_denotation_of, choice_denotation, expr_denotation, branch_denotation}
use Rattle.smv_meaning.specs.Values.{Valuation}
use Rattle.smv_flatten.specs.declared.store.Store.{Store}
use Rattle.smv_flatten.specs.declared.names.NameTables.{NameTables}
use Rattle.smv_flatten.specs.Making.{Made, Maker, test_made, choice_made, cases_made, value_made, is_free, right_layer, right_made}
use Rattle.smv_flatten.specs.Meaning.{tested, environment, TestReady, RightLayerReady, RightReady, Ready, Property, HaveVariables, HaveSymbols}
use Rattle.smv_flatten.proofs.KeptLemmas.{has-extended}
use Rattle.smv_flatten.proofs.ValueLemmas.{Has, Makes, IsGood, branch_on, cases_right}
use Rattle.smv_flatten.proofs.ChoiceLemmas.{tested_right, choice_right}
use Rattle.smv_flatten.proofs.NameLemmas.{value_right}

-- what is allowed by what is taken
exchanged : {B : Type 0} (o : Option Value) (taken : Option B) (allows : B → Value → Option Bool) → tested o (λ v. and_then taken (λ b. allows b v)) ≡ and_then taken (λ b. tested o (allows b))
exchanged None None allows = refl
exchanged None (Some b) allows = refl
exchanged (Some v) None allows = refl
exchanged (Some v) (Some b) allows = refl

module _ (names : NameTables) (symbols : Environment) (states : Bool → Valuation ℕ) (numbers : Bool → ℕ → ℤ) (has : HasSlots names.table.now)
    (have_variables : HaveVariables names symbols states numbers) (have_symbols : HaveSymbols names symbols states numbers) (x : ℕ) (o : Option Value) where
  abbrev denotations : Expr-F Choice Expr Branch → Expr-F Allowed Denotation BranchDenotation
  denotations = map-Expr Choice Expr Branch Allowed Denotation BranchDenotation choice_allows denotation_of branch_denotation_of

  abbrev MakesIn : Store → Made → Option Value → Type 0
  MakesIn = Makes names symbols states numbers

  abbrev Beside : Store → Type 0
  Beside st = Has names symbols states numbers st x o

  -- whether a value is allowed by what is read
  abbrev allowed : Bool → ℕ → Denotation → Option Value
  allowed after_step row s = tested o (s.allows (environment names symbols states after_step row) (environment names symbols states true row))

  abbrev MakesTests : Property → Maker → Type 0
  MakesTests ready ends = (row : ℕ) (after_step : Bool) (e : Expr) (st : Store) → ready row after_step e → Beside st → IsGood names symbols states numbers st → MakesIn st (ends row after_step e st) (allowed after_step row (denotation_of e))

  module _ (depth : ℕ) (tests : MakesTests (RightReady names symbols states depth o) (right_made names depth x)) (row : ℕ) (after_step : Bool) (e : Expr) (st : Store) (h : Beside st) (good : IsGood names symbols states numbers st) where
    plain : TestReady names symbols states (Ready names symbols states (suc depth)) row after_step o e → MakesIn st (test_made (value_made names (suc depth)) x row after_step e st) (allowed after_step row (denotation_of e))
    plain r = tested_right names symbols states numbers (Ready names symbols states (suc depth)) (value_made names (suc depth)) (value_right names symbols states numbers has have_variables have_symbols (suc depth)) x o row after_step e st r h good

    abbrev LayerRight : Bool → Expr-F Choice Expr Branch → Type 0
    LayerRight free d = denotation_of e ≡ expr_denotation (denotations d) → RightLayerReady names symbols states (Ready names symbols states (suc depth)) (Ready names symbols states depth) (RightReady names symbols states depth o) o row after_step e free d
        → MakesIn st (right_layer (value_made names (suc depth)) (value_made names depth) (right_made names depth x) x row after_step e free d st) (allowed after_step row (denotation_of e))

    pick_right : (free : Bool) (choice : Choice) → LayerRight free (Expr-F.Pick choice)
    pick_right free choice is r =
        let n = choice_made (value_made names depth) x row after_step (out-Choice choice) st in
        let c = choice_right names symbols states numbers (Ready names symbols states depth) (value_made names depth) (value_right names symbols states numbers has have_variables have_symbols depth) x o row after_step (out-Choice choice) st r h good in
        subst (λ (s : Denotation). MakesIn st n (allowed after_step row s)) (sym is)
        (subst (λ (allows : Allowed). MakesIn st n (tested o (allows (environment names symbols states after_step row) (environment names symbols states true row)))) (sym (fold_out-Choice Allowed Denotation BranchDenotation choice_denotation expr_denotation branch_denotation choice)) c)

    case_right : (branches : List Branch) → LayerRight true (Expr-F.Cases branches)
    case_right branches is r =
        let now = environment names symbols states after_step row in
        let after = environment names symbols states true row in
        let n = cases_made (value_made names depth) (right_made names depth x) row after_step branches st in
        let c = cases_right names symbols states numbers (Ready names symbols states depth) (RightReady names symbols states depth o) (value_made names depth) (right_made names depth x)
        (value_right names symbols states numbers has have_variables have_symbols depth) allowed Beside (λ a b g k. has-extended names symbols states numbers a b x o g k) tests row after_step branches st r h good in
        subst (λ (s : Denotation). MakesIn st n (allowed after_step row s)) (sym is)
        (subst (MakesIn st n) (sym (exchanged o (branch_on names symbols states numbers after_step row branches) (λ b v. b.value.allows now after v))) c)

    layer_right : (free : Bool) (d : Expr-F Choice Expr Branch) → LayerRight free d
    layer_right free (Expr-F.Pick choice) is r = pick_right free choice is r
    layer_right true (Expr-F.Cases branches) is r = case_right branches is r
    layer_right false (Expr-F.Cases branches) is r = plain r
    layer_right free Expr-F.True is r = plain r
    layer_right free Expr-F.False is r = plain r
    layer_right free (Expr-F.Number n) is r = plain r
    layer_right free (Expr-F.Name path) is r = plain r
    layer_right free (Expr-F.Neg a) is r = plain r
    layer_right free (Expr-F.Not a) is r = plain r
    layer_right free (Expr-F.Binary op a b) is r = plain r
    layer_right free (Expr-F.Within a choice) is r = plain r
    layer_right free (Expr-F.Next a) is r = plain r

  -- the node of a right side that nests at most so deep tests whether it allows the value
  pub right_right : (depth : ℕ) → MakesTests (RightReady names symbols states depth o) (right_made names depth x)
  right_right zero row after_step e st r h good = absurd r
  right_right (suc depth) row after_step e st r h good =
      layer_right depth (right_right depth) row after_step e st h good (is_free e) (out-Expr e) (fold_out-Expr Allowed Denotation BranchDenotation choice_denotation expr_denotation branch_denotation e) r
