-- The nodes of constraints and specs have the values of what these ask.
use Rattle.std.proofs.Common.{◌≡◌, ℕ, zero, suc, length, Bool, true, false, subst, List, [], ◌∷◌, ◌++◌, ℤ, Option, Some, None, refl, sym, ap, ◌∙◌, fold, append_assoc}
use Rattle.std.specs.Prelude.{slice_get, replicate}
use Rattle.std.specs.List.{flat_map}
use Rattle.std.proofs.lemmas.List.{append-nil}
use Rattle.smv_ast.specs.declared.syntax.Op.TheVariants as op
use Rattle.smv_ast.specs.declared.syntax.Expr.{Expr, Expr-F, out-Expr}
use Rattle.smv_ast.specs.declared.syntax.Choice.{Choice}
use Rattle.smv_ast.specs.declared.syntax.Branch.{Branch}
use Rattle.smv_ast.specs.declared.program.Program.{Program}
use Rattle.smv_meaning.specs.declared.items.Role.{Role}
use Rattle.smv_meaning.specs.declared.items.Role.TheVariants as role
use Rattle.smv_meaning.specs.declared.value.Value.{Value}
use Rattle.smv_meaning.specs.Items.{Item}
use Rattle.smv_meaning.specs.Checking.{instance_at}
use Rattle.smv_meaning.specs.ItemIndex.{items_at}
use Rattle.smv_meaning.specs.Slots.{HasSlots}
use Rattle.smv_meaning.specs.Denotations.{Environment}
use Rattle.smv_meaning.specs.Values.{Valuation}
use Rattle.fixpoint.specs.Fixpoints.{entry}
use Rattle.flat_model.specs.declared.nodes.FlatNode.{FlatNode}
use Rattle.flat_model.specs.declared.nodes.FlatNode.TheVariants as node
use Rattle.smv_flatten.specs.declared.names.NameTables.{NameTables}
use Rattle.smv_flatten.specs.declared.store.Store.{Store}
use Rattle.smv_flatten.specs.Making.{Made, pushed, operand_read, variable_made, layer_made, value_made, right_made}
use Rattle.smv_flatten.specs.Groups.{Demand, Truth, Assigned, demand_of, height_limit, variable_number, demand_made, MadeGroup, demand_added, item_made, row_made, group_made}
use Rattle.smv_flatten.specs.Invariants.{SpecAt, IsGuarded, consequence, guardless, right_operand, spec_node, spec_made, spec_added, specs_made}
use Rattle.smv_flatten.specs.Numbering.{Numbered, empty_store, role_made, init_made, numbered}
use Rattle.smv_flatten.specs.Meaning.{value_of_name, value_on, LayerReady, Ready, HaveVariables, HaveSymbols}
use Rattle.smv_flatten.specs.Demands.{DemandAt, demand_listed, item_demands, row_demands, demands, DemandReady, AreReady, demand_value, value_of_demand, AreSpecsReady, value_of_spec, HaveValues, MakesGroup, HasValues, KeepsValues}
use Rattle.smv_flatten.proofs.KeptLemmas.{ExtendsIn, extends-refl, extends-trans, has-extended, behind_right}
use Rattle.smv_flatten.proofs.ValueLemmas.{Makes, IsGood, push, no_value, operand_value, operand_right}
use Rattle.smv_flatten.proofs.NameLemmas.{target_right, value_right}
use Rattle.smv_flatten.proofs.RightLemmas.{right_right}

-- the last of nodes is the one pushed
last_pushed : (nodes : List FlatNode) (n : FlatNode) → slice_get (nodes ++ n ∷ []) (length nodes) ≡ Some n
last_pushed [] n = refl
last_pushed (m ∷ more) n = last_pushed more n

-- a blank table has no entry
blank : (slots k n : ℕ) → entry (replicate slots None) k ≡ Some n → ⊥
blank zero k n e = cc
blank (suc slots) zero n e = cc
blank (suc slots) (suc k) n e = blank slots k n e

module _ (names : NameTables) (symbols : Environment) (states : Bool → Valuation ℕ) (numbers : Bool → ℕ → ℤ) (has : HasSlots names.table.now)
    (have_variables : HaveVariables names symbols states numbers) (have_symbols : HaveSymbols names symbols states numbers) where
  abbrev Values : {A : Type 0} → (A → Option Value) → Store → List A → List ℕ → Type 0
  Values = HaveValues names symbols states numbers

  abbrev Group : {A : Type 0} → (A → Option Value) → MadeGroup → MadeGroup → List A → Type 0
  Group = MakesGroup names symbols states numbers

  abbrev AllReady : List DemandAt → Type 0
  AllReady = AreReady names symbols states

  abbrev Good : Store → Type 0
  Good = IsGood names symbols states numbers

  -- ---- groups

  module _ {A : Type 0} (value : A → Option Value) where
    -- values stay as the store goes on
    pub have-extended : (old new : Store) (ds : List A) (ns : List ℕ) → ExtendsIn names symbols states numbers old new → Values value old ds ns → Values value new ds ns
    have-extended old new [] [] g h = tt
    have-extended old new [] (n ∷ ns) g h = absurd h
    have-extended old new (d ∷ ds) [] g h = absurd h
    have-extended old new (d ∷ ds) (n ∷ ns) g h = (has-extended names symbols states numbers old new n (value d) g h.0, have-extended old new ds ns g h.1)

    have-append : (st : Store) (ds es : List A) (ns ms : List ℕ) → Values value st ds ns → Values value st es ms → Values value st (ds ++ es) (ns ++ ms)
    have-append st [] es [] ms g h = h
    have-append st [] es (n ∷ ns) ms g h = absurd g
    have-append st (d ∷ ds) es [] ms g h = absurd g
    have-append st (d ∷ ds) es (n ∷ ns) ms g h = (g.0, have-append st ds es ns ms g.1 h)

    -- a group without demands, and two groups one after another
    nothing : (group : MadeGroup) → Good group.0 → Group value group group []
    nothing group good = record { extends = extends-refl names symbols states numbers group.0; good = good; made = []; is = sym (append-nil group.1); values = tt }

    together : (a b c : MadeGroup) (ds es : List A) → Group value a b ds → Group value b c es → Group value a c (ds ++ es)
    together a b c ds es x y = record {
      extends = extends-trans names symbols states numbers a.0 b.0 c.0 x.extends y.extends;
      good = y.good;
      made = x.made ++ y.made;
      is = y.is ∙ (ap (λ (l : List ℕ). l ++ y.made) x.is ∙ append_assoc a.1 x.made y.made);
      values = have-append c.0 ds es x.made y.made (have-extended b.0 c.0 ds x.made y.extends x.values) y.values;
    }

    one_made : (d : A) (m : Made) (group : MadeGroup) → Makes names symbols states numbers group.0 m (value d) → Group value group (m.0, group.1 ++ m.1 ∷ []) (d ∷ [])
    one_made d m group r = record { extends = r.extends; good = r.good; made = m.1 ∷ []; is = refl; values = (r.has, tt) }

  -- ---- constraints

  -- the value of a demand
  abbrev asked : DemandAt → Option Value
  asked = value_of_demand names symbols states

  -- the node of a demand
  demand_right : (row : ℕ) (d : Demand) (st : Store) → DemandReady names symbols states row d → Good st → Makes names symbols states numbers st (demand_made names row d st) (demand_value names symbols states row d)
  demand_right row (Truth e) st r good = value_right names symbols states numbers has have_variables have_symbols height_limit row false e st r good
  demand_right row (Assigned after_step name right) st r good =
      let o = value_of_name names symbols states after_step (record { instance = row; name = name }) in
      let x = variable_made after_step (variable_number names row name) st in
      let first = target_right names symbols states numbers has have_variables have_symbols (Ready names symbols states height_limit) (value_made names height_limit) (value_right names symbols states numbers has have_variables have_symbols height_limit) after_step (record { instance = row; name = name }) st r.0 good in
      let test = right_right names symbols states numbers has have_variables have_symbols x.1 o height_limit row false right x.0 r.1 first.has first.good in
      behind_right names symbols states numbers st x (right_made names height_limit x.1 row false right x.0) o (demand_value names symbols states row (Assigned after_step name right)) first test

  split : (ds es : List DemandAt) → AllReady (ds ++ es) → AllReady ds × AllReady es
  split [] es r = (tt, r)
  split (d ∷ ds) es r = let s = split ds es r.1 in ((r.0, s.0), s.1)

  added_right : (row : ℕ) (o : Option Demand) (group : MadeGroup) → AllReady (demand_listed row o) → Good group.0 → Group asked group (demand_added names row group o) (demand_listed row o)
  added_right row None group r good = nothing asked group good
  added_right row (Some d) group r good = one_made asked (record { row = row; demand = d }) (demand_made names row d group.0) group (demand_right row d group.0 r.0 good)

  items_right : (r : Role) (row : ℕ) (items : List Item) (group : MadeGroup) → AllReady (flat_map (item_demands r row) items) → Good group.0 → Group asked group (fold (item_made names r row) group items) (flat_map (item_demands r row) items)
  items_right r row [] group h good = nothing asked group good
  items_right r row (item ∷ more) group h good =
      let s = split (item_demands r row item) (flat_map (item_demands r row) more) h in
      let next = item_made names r row group item in
      let one = added_right row (demand_of r item) group s.0 good in
      together asked group next (fold (item_made names r row) next more) (item_demands r row item) (flat_map (item_demands r row) more) one (items_right r row more next s.1 one.good)

  -- the nodes of the constraints of a role
  pub group_right : (program : Program) (r : Role) (order : List ℕ) (group : MadeGroup) → AllReady (demands program names.table.now r order) → Good group.0 → Group asked group (group_made names program r order group) (demands program names.table.now r order)
  group_right program r [] group h good = nothing asked group good
  group_right program r (row ∷ more) group h good =
      let s = split (row_demands program names.table.now r row) (demands program names.table.now r more) h in
      let next = row_made names program r group row in
      let one = items_right r row (items_at program (instance_at names.table.now row)) group s.0 good in
      together asked group next (group_made names program r more next) (row_demands program names.table.now r row) (demands program names.table.now r more) one (group_right program r more next s.1 one.good)

  -- ---- specs

  -- the value of a spec
  abbrev stated : SpecAt → Option Value
  stated = value_of_spec names symbols states

  -- the right side of an implication has its own node, the last operand of the last node
  implied_right : (depth row feature : ℕ) (e a b : Expr) (st : Store) → out-Expr e ≡ Expr-F.Binary op.Implies a b → Ready names symbols states depth row false e → Good st
      → Makes names symbols states numbers st (spec_node (Some feature) (value_made names depth row false e st)) (value_on names symbols states false row (consequence e (out-Expr e)))
  implied_right zero row feature e a b st is r good = absurd r
  implied_right (suc depth) row feature e a b st is r good =
      let make = value_made names depth in
      let parts : LayerReady names symbols states (Ready names symbols states depth) row false (Expr-F.Binary op.Implies a b) = subst (LayerReady names symbols states (Ready names symbols states depth) row false) is r in
      let makes = value_right names symbols states numbers has have_variables have_symbols depth in
      let p = value_on names symbols states false row a in
      let q = value_on names symbols states false row b in
      let first = make row false a st in
      let m = operand_read op.Implies first in
      let read : Option Value = operand_value names symbols states numbers op.Implies p in
      let ra = operand_right names symbols states numbers st op.Implies first p (makes row false a st parts.0 good) in
      let n = make row false b m.0 in
      let rb = makes row false b m.0 parts.1 ra.good in
      let whole = pushed (node.Or m.1 n.1) n.0 in
      let last = push names symbols states numbers n.0 (node.Or m.1 n.1) None rb.good (λ v e. no_value names symbols states numbers v e) in
      let own : Makes names symbols states numbers st (whole.0, n.1) q = record {
        extends = extends-trans names symbols states numbers st m.0 whole.0 ra.extends (extends-trans names symbols states numbers m.0 n.0 whole.0 rb.extends last.extends);
        good = last.good;
        has = has-extended names symbols states numbers n.0 whole.0 n.1 q last.extends rb.has;
      } in
      let operand : right_operand (slice_get whole.0.nodes whole.1) whole.1 ≡ n.1 = ap (λ (o : Option FlatNode). right_operand o whole.1) (last_pushed n.0.nodes (node.Or m.1 n.1)) in
      subst (λ (l : Expr-F Choice Expr Branch). Makes names symbols states numbers st (spec_node (Some feature) (layer_made names make row false l st)) (value_on names symbols states false row (consequence e l))) (sym is)
      (subst (λ (k : ℕ). Makes names symbols states numbers st (whole.0, k) q) (sym operand) own)

  spec_right : (one : SpecAt) (owner : Option ℕ) (st : Store) → Ready names symbols states height_limit one.row false one.expression → IsGuarded owner one.expression → Good st
      → Makes names symbols states numbers st (spec_node owner (value_made names height_limit one.row false one.expression st)) (value_on names symbols states false one.row (guardless owner one.expression))
  spec_right one None st r h good = value_right names symbols states numbers has have_variables have_symbols height_limit one.row false one.expression st r good
  spec_right one (Some feature) st r h good = implied_right height_limit one.row feature one.expression h.0 h.1 st h.2 r good

  -- the nodes of specs
  pub specs_right : (specs : List SpecAt) (group : MadeGroup) → AreSpecsReady names symbols states specs → Good group.0 → Group stated group (fold (spec_added names) group specs) specs
  specs_right [] group h good = nothing stated group good
  specs_right (one ∷ more) group h good =
      let next = spec_added names group one in
      let made = one_made stated one (spec_made names one group.0) group (spec_right one one.owner group.0 h.0.ready h.0.guarded good) in
      together stated group next (fold (spec_added names) next more) (one ∷ []) more made (specs_right more next h.1 made.good)

  -- ---- the model

  -- a store without shared nodes is good
  empty_good : (slots : ℕ) → Good (empty_store slots)
  empty_good slots true k n e = absurd (blank slots k n e)
  empty_good slots false k n e = absurd (blank slots k n e)

  -- the nodes that a group from nothing made
  own_nodes : {A : Type 0} (value : A → Option Value) (st : Store) (after : MadeGroup) (ds : List A) → Group value (st, []) after ds → Values value after.0 ds after.1
  own_nodes value st after ds g = subst (Values value after.0 ds) (sym g.is) g.values

  -- the nodes of the constraints on first states, the rows taken one after the other
  init_group : (program : Program) (order : List ℕ) (st : Store) → (init_made names program order st).0 ≡ group_made names program role.Init order (st, [])
  init_group program [] st = refl
  init_group program (main ∷ others) st = refl

  pub has_values : (program : Program) (specs : List SpecAt) (order : List ℕ) → AllReady (demands program names.table.now role.Invariant order) → AllReady (demands program names.table.now role.Init order) → AllReady (demands program names.table.now role.Transition order) → AreSpecsReady names symbols states specs
      → HasValues names symbols states numbers program specs order (numbered names program specs order)
  has_values program specs order ready_inside ready_init ready_step ready_specs =
      let table = names.table.now in
      let start = empty_store (length table.slots) in
      let inside = role_made names program role.Invariant order start in
      let g = group_right program role.Invariant order (start, []) ready_inside (empty_good (length table.slots)) in
      let init = group_made names program role.Init order (inside.0, []) in
      let h = group_right program role.Init order (inside.0, []) ready_init g.good in
      let step = role_made names program role.Transition order init.0 in
      let i = group_right program role.Transition order (init.0, []) ready_step h.good in
      let made = specs_made names specs step.0 in
      let j = specs_right specs (step.0, []) ready_specs i.good in
      let from_step = j.extends in
      let from_init = extends-trans names symbols states numbers init.0 step.0 made.0 i.extends from_step in
      let from_inside = extends-trans names symbols states numbers inside.0 init.0 made.0 h.extends from_init in
      let given : HasValues names symbols states numbers program specs order (record { inside = inside.1; init = init.1; step = step.1; model = (init_made names program order inside.0).1; specs = made.1; store = made.0 }) = record {
        inside = have-extended asked inside.0 made.0 (demands program table role.Invariant order) inside.1 from_inside (own_nodes asked start inside (demands program table role.Invariant order) g);
        init = have-extended asked init.0 made.0 (demands program table role.Init order) init.1 from_init (own_nodes asked inside.0 init (demands program table role.Init order) h);
        step = have-extended asked step.0 made.0 (demands program table role.Transition order) step.1 from_step (own_nodes asked init.0 step (demands program table role.Transition order) i);
        specs = own_nodes stated step.0 made specs j;
      } in
      subst (λ (group : MadeGroup). HasValues names symbols states numbers program specs order (after_init group)) (sym (init_group program order inside.0)) given
    where
      after_init : MadeGroup → Numbered
      after_init group =
          let step = role_made names program role.Transition order group.0 in
          let made = specs_made names specs step.0 in
          record { inside = (role_made names program role.Invariant order (empty_store (length names.table.now.slots))).1; init = group.1; step = step.1; model = (init_made names program order (role_made names program role.Invariant order (empty_store (length names.table.now.slots))).0).1; specs = made.1; store = made.0 }

pub keeps_values : (names : NameTables) (program : Program) (specs : List SpecAt) (order : List ℕ) → HasSlots names.table.now → KeepsValues names program specs order
keeps_values names program specs order has symbols states numbers have_variables have_symbols inside init step ready = has_values names symbols states numbers has have_variables have_symbols program specs order inside init step ready
