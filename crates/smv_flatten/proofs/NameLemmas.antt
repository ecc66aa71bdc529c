-- The node of a name has its value, and so the node of each expression has its value.
use Rattle.std.proofs.Common.{◌≡◌, ℕ, zero, suc, Bool, true, false, List, ℤ, pos, ◌-ℤ◌, Option, Some, None, refl, sym, ap, ◌∙◌, subst}
use Rattle.std.specs.Prelude.{slice_get}
use Rattle.smv_ast.specs.declared.syntax.Expr.{Expr, Expr-F, out-Expr, fold_out-Expr, map-Expr}
use Rattle.smv_ast.specs.declared.syntax.Choice.{Choice, out-Choice, fold_out-Choice}
use Rattle.smv_ast.specs.declared.syntax.Branch.{Branch}
use Rattle.smv_meaning.specs.declared.value.Value.{Value}
use Rattle.smv_meaning.specs.declared.value.Value.TheVariants.{Boolean, Number}
use Rattle.smv_meaning.specs.declared.table.Slot.{Slot}
use Rattle.smv_meaning.specs.Value.{Name, and_then, of_both, operate, negated, logical_not}
use Rattle.fixpoint.specs.Fixpoints.{known, most, Under, entry}
use Rattle.smv_meaning.specs.Paths.{QualifiedName, Binding, IsVariable, IsInstance, IsDefine, IsFormal, IsNothing, resolve}
use Rattle.smv_meaning.specs.InstanceTable.{binding_view}
use Rattle.smv_meaning.specs.Slots.{slot_of, name_of_slot, binding_in, HasSlots}
use Rattle.smv_meaning.specs.Denotations.{Environment, Allowed, Denotation, BranchDenotation, denotation_of, choice_allows, branch_denotation_of, choice_denotation, expr_denotation, branch_denotation}
use Rattle.smv_meaning.specs.Values.{Valuation, value_at_path, value_of_binding, valuation_step}
use Rattle.smv_meaning.specs.StepMonotone.{valuation_step_monotone}
use Rattle.smv_meaning.proofs.SlotLemmas.{the_slot}
use Rattle.flat_model.specs.declared.nodes.FlatNode.TheVariants as node
use Rattle.smv_flatten.specs.declared.store.Store.{Store}
use Rattle.smv_flatten.specs.declared.names.NameTables.{NameTables}
use Rattle.flat_model.specs.Evaluation.{node_value}
use Rattle.smv_flatten.specs.Names.{path_number}
use Rattle.smv_flatten.specs.Making.{Maker, pushed, then_pushed, operand_read, joined, shared_node, variable_node, variable_made, shared_made, binding_made, slot_made, path_made, choice_made, layer_made, value_made}
use Rattle.smv_flatten.specs.Meaning.{code, node_values, tested, value_of_name, environment, slot_value, IsSteady, BindingReady, SlotReady, PathReady, LayerReady, Ready, Property, HaveVariables, HaveSymbols}
use Rattle.smv_flatten.proofs.KeptLemmas.{extends-refl, has-extended, behind_right, shared_right, weaken_right}
use Rattle.smv_flatten.proofs.OperatorLemmas.{logical_not_value, negated_value}
use Rattle.smv_flatten.proofs.ChoiceLemmas.{choice_right}
use Rattle.smv_flatten.proofs.ValueLemmas.{Makes, IsGood, push, at, no_value, operand_value, operand_right, joined_right, on, MakesValues, cases_right}

-- what is known after so many rounds is under one round more
under_step : {K A : Type 0} (step : (K → Option A) → K → Option A) → ((s t : K → Option A) → Under s t → Under (step s) (step t)) → (rounds : ℕ) → Under (known step rounds) (step (known step rounds))
under_step step grows zero k a e = cc
under_step step grows (suc rounds) k a e = grows (known step rounds) (known step (suc rounds)) (under_step step grows rounds) k a e

one_of : {A : Type 0} (a b : A) → Some a ≡ Some b → a ≡ b
one_of a b e = cc

module _ (names : NameTables) (symbols : Environment) (states : Bool → Valuation ℕ) (numbers : Bool → ℕ → ℤ) (has : HasSlots names.table.now)
    (have_variables : HaveVariables names symbols states numbers) (have_symbols : HaveSymbols names symbols states numbers) where
  -- a name with a value has that by its binding
  worth_is : (after_step : Bool) (qualified : QualifiedName ℕ) (v : Value) → value_of_name names symbols states after_step qualified ≡ Some v → valuation_step (binding_in names.table.now) symbols (states after_step) (value_of_name names symbols states after_step) qualified ≡ Some v
  worth_is after_step qualified v e = under_step (valuation_step (binding_in names.table.now) symbols (states after_step)) (valuation_step_monotone (binding_in names.table.now) symbols (states after_step)) most qualified v e

  -- a name without a slot has none
  no_slot : (after_step : Bool) (qualified : QualifiedName ℕ) (v : Value) → slot_of names.table.now qualified ≡ None → value_of_name names symbols states after_step qualified ≡ Some v → ⊥
  no_slot after_step qualified v e f =
      let h : None ≡ Some v = sym (ap (λ (o : Option ℕ). and_then (and_then o (λ k. and_then (slice_get names.table.now.slots k) (λ slot. Some (binding_view slot.binding)))) (value_of_binding (binding_in names.table.now) symbols (states after_step) (value_of_name names symbols states after_step) qualified)) e) ∙ worth_is after_step qualified v f in
      cc

  -- the value of the name of a slot, by its binding
  slot_is : (after_step : Bool) (k : ℕ) (slot : Slot) (v : Value) → slot_of names.table.now (name_of_slot slot) ≡ Some k → slice_get names.table.now.slots k ≡ Some slot → value_of_name names symbols states after_step (name_of_slot slot) ≡ Some v
      → value_of_binding (binding_in names.table.now) symbols (states after_step) (value_of_name names symbols states after_step) (name_of_slot slot) (binding_view slot.binding) ≡ Some v
  slot_is after_step k slot v e f g =
      let made = value_of_binding (binding_in names.table.now) symbols (states after_step) (value_of_name names symbols states after_step) (name_of_slot slot) in
      sym (ap (λ (o : Option ℕ). and_then (and_then o (λ k. and_then (slice_get names.table.now.slots k) (λ slot. Some (binding_view slot.binding)))) made) e
      ∙ ap (λ (o : Option Slot). and_then (and_then o (λ slot. Some (binding_view slot.binding))) made) f)
      ∙ worth_is after_step (name_of_slot slot) v g

  module _ (ready : Property) (make : Maker) (makes : MakesValues names symbols states numbers ready make) where
    -- a variable
    variable_right : (after_step : Bool) (k : ℕ) (slot : Slot) (st : Store) (o : Option ℕ) → entry names.variables.now k ≡ o → slice_get names.table.now.slots k ≡ Some slot → binding_view slot.binding ≡ IsVariable → (q : Option Value) → ((v : Value) → q ≡ Some v → states after_step (name_of_slot slot) ≡ Some v)
        → IsGood names symbols states numbers st → Makes names symbols states numbers st (variable_made after_step o st) q
    variable_right after_step k slot st None e f m q h good =
        push names symbols states numbers st (node.Const (pos 0)) q good (λ v g. let t = have_variables after_step k slot v f m (h v g) in let bad : None ≡ Some t.0 = sym e ∙ t.1 in cc)
    variable_right after_step k slot st (Some n) e f m q h good = push names symbols states numbers st (variable_node after_step n) q good (λ v g. law after_step v (have_variables after_step k slot v f m (h v g)))
      where
        law : (after_step : Bool) (v : Value) → (j : ℕ) × (entry names.variables.now k ≡ Some j) × (numbers after_step j ≡ code names.symbols.now v) → node_value (numbers false) (numbers true) (node_values numbers st.nodes) (variable_node after_step n) ≡ code names.symbols.now v
        law true v t = let same : Some n ≡ Some t.0 = sym e ∙ t.1 in ap (numbers true) (one_of n t.0 same) ∙ t.2
        law false v t = let same : Some n ≡ Some t.0 = sym e ∙ t.1 in ap (numbers false) (one_of n t.0 same) ∙ t.2

    -- a definition or formal
    definition_right : (after_step : Bool) (k row : ℕ) (e : Expr) (st : Store) (o : Option ℕ) → shared_node st.shared after_step k ≡ o → IsSteady names symbols states e × ready row after_step e
        → ((v : Value) → slot_value names symbols states after_step k ≡ Some v → (denotation_of e).value (environment names symbols states after_step row) (environment names symbols states after_step row) ≡ Some v)
        → IsGood names symbols states numbers st → Makes names symbols states numbers st (shared_made make k after_step row e o st) (slot_value names symbols states after_step k)
    definition_right after_step k row e st (Some n) f r h good = record { extends = extends-refl names symbols states numbers st; good = good; has = good after_step k n f }
    definition_right after_step k row e st None f r h good =
        let m = makes row after_step e st r.1 good in
        shared_right names symbols states numbers st after_step k (make row after_step e st)
        (weaken_right names symbols states numbers st (make row after_step e st) (on names symbols states numbers after_step row e) (slot_value names symbols states after_step k)
        (λ v g. r.0 (environment names symbols states after_step row) (environment names symbols states true row) ∙ h v g) m)

    -- a slot
    slot_right : (after_step : Bool) (k : ℕ) (slot : Slot) (st : Store) (m : Binding ℕ) → binding_view slot.binding ≡ m → slice_get names.table.now.slots k ≡ Some slot → BindingReady names symbols states ready after_step slot.row m
        → ((v : Value) → slot_value names symbols states after_step k ≡ Some v → value_of_binding (binding_in names.table.now) symbols (states after_step) (value_of_name names symbols states after_step) (name_of_slot slot) m ≡ Some v)
        → IsGood names symbols states numbers st → Makes names symbols states numbers st (binding_made names make k after_step slot.row m st) (slot_value names symbols states after_step k)
    slot_right after_step k slot st IsVariable e f r h good = variable_right after_step k slot st (entry names.variables.now k) refl f e (slot_value names symbols states after_step k) h good
    slot_right after_step k slot st (IsDefine right) e f r h good = definition_right after_step k slot.row right st (shared_node st.shared after_step k) refl r h good
    slot_right after_step k slot st (IsFormal outer actual) e f r h good = definition_right after_step k outer actual st (shared_node st.shared after_step k) refl r h good
    slot_right after_step k slot st (IsInstance c) e f r h good = push names symbols states numbers st (node.Const (pos 0)) (slot_value names symbols states after_step k) good (λ v g. let n : None ≡ Some v = h v g in cc)
    slot_right after_step k slot st IsNothing e f r h good = push names symbols states numbers st (node.Const (pos 0)) (slot_value names symbols states after_step k) good (λ v g. let n : None ≡ Some v = h v g in cc)

    -- the variable of a name
    pub target_right : (after_step : Bool) (qualified : QualifiedName ℕ) (st : Store) → binding_in names.table.now qualified ≡ Some IsVariable → IsGood names symbols states numbers st
        → Makes names symbols states numbers st (variable_made after_step (and_then (slot_of names.table.now qualified) (entry names.variables.now)) st) (value_of_name names symbols states after_step qualified)
    target_right after_step qualified st v good = by (slot_of names.table.now qualified) refl
      where
        by : (o : Option ℕ) → slot_of names.table.now qualified ≡ o → Makes names symbols states numbers st (variable_made after_step (and_then o (entry names.variables.now)) st) (value_of_name names symbols states after_step qualified)
        by None e = push names symbols states numbers st (node.Const (pos 0)) (value_of_name names symbols states after_step qualified) good (λ v g. absurd (no_slot after_step qualified v e g))
        by (Some k) e =
            let s = the_slot names.table.now qualified k has e in
            let slot : Slot = s.0 in
            let bound : binding_in names.table.now qualified ≡ Some (binding_view slot.binding) =
            ap (λ (o : Option ℕ). and_then o (λ k. and_then (slice_get names.table.now.slots k) (λ slot. Some (binding_view slot.binding)))) e
            ∙ ap (λ (o : Option Slot). and_then o (λ slot. Some (binding_view slot.binding))) s.1 in
            let is_variable : binding_view slot.binding ≡ IsVariable = one_of (binding_view slot.binding) IsVariable (sym bound ∙ v) in
            let at_spot : slot_of names.table.now (name_of_slot slot) ≡ Some k = ap (slot_of names.table.now) s.2 ∙ e in
            let worth_at_slot : slot_value names symbols states after_step k ≡ value_of_name names symbols states after_step (name_of_slot slot) = ap (λ (o : Option Slot). and_then o (λ slot. value_of_name names symbols states after_step (name_of_slot slot))) s.1 in
            let made = variable_right after_step k slot st (entry names.variables.now k) refl s.1 is_variable (slot_value names symbols states after_step k)
            (λ v g. subst (λ (m : Binding ℕ). value_of_binding (binding_in names.table.now) symbols (states after_step) (value_of_name names symbols states after_step) (name_of_slot slot) m ≡ Some v) is_variable (slot_is after_step k slot v at_spot s.1 (sym worth_at_slot ∙ g))) good in
            subst (λ (q : Option Value). Makes names symbols states numbers st (variable_made after_step (entry names.variables.now k) st) q) (worth_at_slot ∙ ap (value_of_name names symbols states after_step) s.2) made

    -- a name that is declared
    spot_right : (after_step : Bool) (path : List Name) (qualified : QualifiedName ℕ) (st : Store) (o : Option ℕ) → slot_of names.table.now qualified ≡ o → PathReady names symbols states ready after_step o → IsGood names symbols states numbers st
        → Makes names symbols states numbers st (path_made names make after_step path o st) (value_of_name names symbols states after_step qualified)
    spot_right after_step path qualified st None e r good =
        push names symbols states numbers st (node.Const (pos (path_number names.symbols.now path))) (value_of_name names symbols states after_step qualified) good (λ v g. absurd (no_slot after_step qualified v e g))
    spot_right after_step path qualified st (Some k) e r good =
        let s = the_slot names.table.now qualified k has e in
        let slot : Slot = s.0 in
        let at_spot : slot_of names.table.now (name_of_slot slot) ≡ Some k = ap (slot_of names.table.now) s.2 ∙ e in
        let worth_at_slot : slot_value names symbols states after_step k ≡ value_of_name names symbols states after_step (name_of_slot slot) = ap (λ (o : Option Slot). and_then o (λ slot. value_of_name names symbols states after_step (name_of_slot slot))) s.1 in
        let ready_slot : BindingReady names symbols states ready after_step slot.row (binding_view slot.binding) = subst (SlotReady names symbols states ready after_step) s.1 r in
        let is_right = slot_right after_step k slot st (binding_view slot.binding) refl s.1 ready_slot (λ v g. slot_is after_step k slot v at_spot s.1 (sym worth_at_slot ∙ g)) good in
        subst (λ (q : Option Value). Makes names symbols states numbers st (path_made names make after_step path (Some k) st) q) (worth_at_slot ∙ ap (value_of_name names symbols states after_step) s.2)
        (subst (λ (o : Option Slot). Makes names symbols states numbers st (slot_made names make k after_step o st) (slot_value names symbols states after_step k)) (sym s.1) is_right)

    -- a path
    path_right : (after_step : Bool) (row : ℕ) (path : List Name) (st : Store) (o : Option (QualifiedName ℕ)) → PathReady names symbols states ready after_step (and_then o (slot_of names.table.now)) → IsGood names symbols states numbers st
        → Makes names symbols states numbers st (path_made names make after_step path (and_then o (slot_of names.table.now)) st) (value_at_path symbols (value_of_name names symbols states after_step) path o)
    path_right after_step row path st None r good = push names symbols states numbers st (node.Const (pos (path_number names.symbols.now path))) (symbols path) good (λ v e. have_symbols path v e)
    path_right after_step row path st (Some qualified) r good = spot_right after_step path qualified st (slot_of names.table.now qualified) refl r good

    -- a layer
    abbrev denotations : Expr-F Choice Expr Branch → Expr-F Allowed Denotation BranchDenotation
    denotations = map-Expr Choice Expr Branch Allowed Denotation BranchDenotation choice_allows denotation_of branch_denotation_of

    abbrev layer_value : Bool → ℕ → Expr-F Choice Expr Branch → Option Value
    layer_value after_step row d = (expr_denotation (denotations d)).value (environment names symbols states after_step row) (environment names symbols states true row)

    -- a number or a truth value
    constant_right : (st : Store) (z : ℤ) (w : Value) → z ≡ code names.symbols.now w → IsGood names symbols states numbers st → Makes names symbols states numbers st (pushed (node.Const z) st) (Some w)
    constant_right st z w h good = push names symbols states numbers st (node.Const z) (Some w) good (λ v e. h ∙ ap (code names.symbols.now) (one_of w v e))

    layer_right : (row : ℕ) (after_step : Bool) (d : Expr-F Choice Expr Branch) (st : Store) → LayerReady names symbols states ready row after_step d → IsGood names symbols states numbers st → Makes names symbols states numbers st (layer_made names make row after_step d st) (layer_value after_step row d)
    layer_right row after_step Expr-F.True st r good = constant_right st (pos 1) (Boolean true) refl good
    layer_right row after_step Expr-F.False st r good = constant_right st (pos 0) (Boolean false) refl good
    layer_right row after_step (Expr-F.Number n) st r good = constant_right st (pos n) (Number (pos n)) refl good
    layer_right row after_step (Expr-F.Name path) st r good = path_right after_step row path.names st (resolve (binding_in names.table.now) row path.names) r good
    layer_right row after_step (Expr-F.Not a) st r good =
        let m = make row after_step a st in
        let p = on names symbols states numbers after_step row a in
        let q = makes row after_step a st r good in
        behind_right names symbols states numbers st m (then_pushed node.Not m) p (and_then p logical_not) q
        (push names symbols states numbers m.0 (node.Not m.1) (and_then p logical_not) q.good (logical_not_value names.symbols.now (at names symbols states numbers m.0 m.1) p q.has.is))
    layer_right row after_step (Expr-F.Neg a) st r good =
        let z = pushed (node.Const (pos 0)) st in
        let first = constant_right st (pos 0) (Number (pos 0)) refl good in
        let m = make row after_step a z.0 in
        let p = on names symbols states numbers after_step row a in
        let q = makes row after_step a z.0 r first.good in
        let zero_there = has-extended names symbols states numbers z.0 m.0 z.1 (Some (Number (pos 0))) q.extends first.has in
        behind_right names symbols states numbers st z (pushed (node.Sub z.1 m.1) m.0) (Some (Number (pos 0))) (and_then p negated) first
        (behind_right names symbols states numbers z.0 m (pushed (node.Sub z.1 m.1) m.0) p (and_then p negated) q
        (push names symbols states numbers m.0 (node.Sub z.1 m.1) (and_then p negated) q.good
        (λ v e. ap (λ (x : ℤ). x -ℤ at names symbols states numbers m.0 m.1) (zero_there.is (Number (pos 0)) refl) ∙ negated_value names.symbols.now (at names symbols states numbers m.0 m.1) p q.has.is v e)))
    layer_right row after_step (Expr-F.Binary o a b) st r good =
        let first = make row after_step a st in
        let m = operand_read o first in
        let n = make row after_step b m.0 in
        let p = on names symbols states numbers after_step row a in
        let q = on names symbols states numbers after_step row b in
        let read : Option Value = operand_value names symbols states numbers o p in
        let ra = operand_right names symbols states numbers st o first p (makes row after_step a st r.0 good) in
        let rb = makes row after_step b m.0 r.1 ra.good in
        let ha = has-extended names symbols states numbers m.0 n.0 m.1 read rb.extends ra.has in
        behind_right names symbols states numbers st m (joined o m.1 n.1 n.0) read (of_both (operate o) p q) ra
        (behind_right names symbols states numbers m.0 n (joined o m.1 n.1 n.0) q (of_both (operate o) p q) rb
        (joined_right names symbols states numbers n.0 o m.1 n.1 p q rb.good ha rb.has r.2))
    layer_right row after_step (Expr-F.Within a choice) st r good =
        let m = make row after_step a st in
        let p = on names symbols states numbers after_step row a in
        let q = makes row after_step a st r.0 good in
        let now = environment names symbols states after_step row in
        let after = environment names symbols states true row in
        let n = choice_made make m.1 row after_step (out-Choice choice) m.0 in
        let c = choice_right names symbols states numbers ready make makes m.1 p row after_step (out-Choice choice) m.0 r.1 q.has q.good in
        behind_right names symbols states numbers st m n p (tested p (choice_allows choice now after)) q
        (subst (λ (allows : Allowed). Makes names symbols states numbers m.0 n (tested p (allows now after))) (sym (fold_out-Choice Allowed Denotation BranchDenotation choice_denotation expr_denotation branch_denotation choice)) c)
    layer_right row after_step (Expr-F.Cases branches) st r good = cases_right names symbols states numbers ready ready make make makes (λ after_step row s. s.value (environment names symbols states after_step row) (environment names symbols states true row)) (λ st. Unit {0}) (λ a b g k. k) (λ row after_step e st r k good. makes row after_step e st r good) row after_step branches st r tt good
    layer_right row after_step (Expr-F.Next a) st r good = makes row true a st r good
    layer_right row after_step (Expr-F.Pick choice) st r good = push names symbols states numbers st (node.Const (pos 0)) None good (λ v e. no_value names symbols states numbers v e)

  -- the node of an expression that is at most so high has its value
  pub value_right : (depth : ℕ) → MakesValues names symbols states numbers (Ready names symbols states depth) (value_made names depth)
  value_right zero row after_step e st r good = absurd r
  value_right (suc depth) row after_step e st r good =
      subst (λ (s : Denotation). Makes names symbols states numbers st (value_made names (suc depth) row after_step e st) (s.value (environment names symbols states after_step row) (environment names symbols states true row)))
      (sym (fold_out-Expr Allowed Denotation BranchDenotation choice_denotation expr_denotation branch_denotation e))
      (layer_right (Ready names symbols states depth) (value_made names depth) (value_right depth) row after_step (out-Expr e) st r good)
