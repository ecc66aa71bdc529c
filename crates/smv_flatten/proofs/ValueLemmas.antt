-- The node of an expression has its value.
use Rattle.std.proofs.Common.{◌≡◌, ℕ, length, Bool, true, false, not, if◌then◌else◌, List, [], ◌∷◌, map, ℤ, pos, Option, Some, None, refl, sym, ap, ◌∙◌, subst}
use Rattle.std.specs.Ordering.{int_eq}
use Rattle.smv_ast.specs.declared.syntax.Op.{Op}
use Rattle.smv_ast.specs.declared.syntax.Op.TheVariants as op
use Rattle.smv_ast.specs.declared.syntax.Expr.{Expr}
use Rattle.smv_ast.specs.declared.syntax.Branch.{Branch, out-Branch}
use Rattle.smv_meaning.specs.declared.value.Value.{Value}
use Rattle.smv_meaning.specs.Value.{and_then, of_both, truth, bool_eq, operate, logical_not}
use Rattle.smv_meaning.specs.Denotations.{Environment, Denotation, BranchDenotation, taken_in, holds_in, denotation_of, branch_denotation_of}
use Rattle.smv_meaning.specs.Values.{Valuation}
use Rattle.smv_meaning.proofs.DenotationLemmas.{branch_is}
use Rattle.flat_model.specs.declared.nodes.FlatNode.{FlatNode}
use Rattle.flat_model.specs.declared.nodes.FlatNode.TheVariants as node
use Rattle.smv_flatten.specs.declared.store.Store.{Store}
use Rattle.smv_flatten.specs.declared.names.NameTables.{NameTables}
use Rattle.flat_model.specs.Numbers.{truth_of, number_of, either}
use Rattle.flat_model.specs.Evaluation.{node_value}
use Rattle.smv_flatten.specs.Making.{Made, Maker, pushed, then_pushed, operand_read, joined, cases_made}
use Rattle.smv_flatten.specs.Names.{SymbolSet}
use Rattle.smv_flatten.specs.Meaning.{node_values, code, DoAgree, IsComparison, environment, value_on, BranchesReady, Property, at_node}
use Rattle.smv_flatten.proofs.KeptLemmas.{eval-pushed, HasIn, ExtendsIn, MakesIn, Good, extends-trans, has-extended, pushed_right, behind_right}
use Rattle.smv_flatten.proofs.OperatorLemmas.{Is, one_number, truth_code, same_value, add_value, sub_value, mul_value, mod_value, lt_value, gt_value, le_value, ge_value, and_value, or_value, xor_value, xnor_value, iff_value, implies_value, ne_value, logical_not_value}

-- the node of a choice between two values
if_true : (b : Bool) (x y : ℤ) → b ≡ true → (if b then x else y) ≡ x
if_true true x y e = refl
if_true false x y e = cc

if_false : (b : Bool) (x y : ℤ) → b ≡ false → (if b then x else y) ≡ y
if_false true x y e = cc
if_false false x y e = refl

module _ (names : NameTables) (symbols : Environment) (states : Bool → Valuation ℕ) (numbers : Bool → ℕ → ℤ) where
  abbrev pub numbering : SymbolSet
  numbering = names.symbols.now

  abbrev pub Has : Store → ℕ → Option Value → Type 0
  Has = HasIn names symbols states numbers

  abbrev pub Makes : Store → Made → Option Value → Type 0
  Makes = MakesIn names symbols states numbers

  abbrev pub IsGood : Store → Type 0
  IsGood = Good names symbols states numbers

  pub push : (st : Store) (n : FlatNode) (o : Option Value) → IsGood st → ((v : Value) → o ≡ Some v → node_value (numbers false) (numbers true) (node_values numbers st.nodes) n ≡ code numbering v) → Makes st (pushed n st) o
  push = pushed_right names symbols states numbers

  abbrev pub at : Store → ℕ → ℤ
  at = at_node names symbols states numbers

  pub no_value : {P : Type 0} (v : Value) → None ≡ Some v → P
  no_value v e = cc

  -- the Not of one more node
  not_right : (st : Store) (n : FlatNode) (o : Option Value) → IsGood st → ((v : Value) → o ≡ Some v → number_of (not (truth_of (node_value (numbers false) (numbers true) (node_values numbers st.nodes) n))) ≡ code numbering v) → Makes st (then_pushed node.Not (pushed n st)) o
  not_right st n o good h =
      let first = push st n None good (λ v e. no_value v e) in
      behind_right names symbols states numbers st (pushed n st) (then_pushed node.Not (pushed n st)) None o first
      (push (pushed n st).0 (node.Not (length st.nodes)) o first.good (λ v e. ap (λ (z : ℤ). number_of (not (truth_of z))) (eval-pushed numbers st.nodes n) ∙ h v e))

  equal_not : (b c : Bool) → not (truth_of (number_of (either b c))) ≡ bool_eq b c
  equal_not true true = refl
  equal_not true false = refl
  equal_not false true = refl
  equal_not false false = refl

  -- the value of the first operand as an operator reads it
  abbrev pub operand_value : Op → Option Value → Option Value
  operand_value op.Implies p = and_then p logical_not
  operand_value o p = p

  -- the node of the first operand as an operator reads it
  pub operand_right : (st : Store) (o : Op) (m : Made) (p : Option Value) → Makes st m p → Makes st (operand_read o m) (operand_value o p)
  operand_right st op.Implies m p r =
      behind_right names symbols states numbers st m (then_pushed node.Not m) p (and_then p logical_not) r
      (push m.0 (node.Not m.1) (and_then p logical_not) r.good (logical_not_value numbering (at m.0 m.1) p r.has.is))
  operand_right st op.Add m p r = r
  operand_right st op.Sub m p r = r
  operand_right st op.Mul m p r = r
  operand_right st op.Mod m p r = r
  operand_right st op.Eq m p r = r
  operand_right st op.Ne m p r = r
  operand_right st op.Lt m p r = r
  operand_right st op.Gt m p r = r
  operand_right st op.Le m p r = r
  operand_right st op.Ge m p r = r
  operand_right st op.And m p r = r
  operand_right st op.Or m p r = r
  operand_right st op.Xor m p r = r
  operand_right st op.Xnor m p r = r
  operand_right st op.Iff m p r = r

  -- the nodes of an operator, over those of its operands
  pub joined_right : (st : Store) (o : Op) (i j : ℕ) (p q : Option Value) → IsGood st → Has st i (operand_value o p) → Has st j q → (IsComparison o → DoAgree numbering p q) → Makes st (joined o i j st) (of_both (operate o) p q)
  joined_right st op.Add i j p q good hi hj alike = push st (node.Add i j) (of_both (operate op.Add) p q) good (add_value numbering (at st i) (at st j) p q hi.is hj.is)
  joined_right st op.Sub i j p q good hi hj alike = push st (node.Sub i j) (of_both (operate op.Sub) p q) good (sub_value numbering (at st i) (at st j) p q hi.is hj.is)
  joined_right st op.Mul i j p q good hi hj alike = push st (node.Mul i j) (of_both (operate op.Mul) p q) good (mul_value numbering (at st i) (at st j) p q hi.is hj.is)
  joined_right st op.Mod i j p q good hi hj alike = push st (node.Mod i j) (of_both (operate op.Mod) p q) good (mod_value numbering (at st i) (at st j) p q hi.is hj.is)
  joined_right st op.Lt i j p q good hi hj alike = push st (node.Lt i j) (of_both (operate op.Lt) p q) good (lt_value numbering (at st i) (at st j) p q hi.is hj.is)
  joined_right st op.Gt i j p q good hi hj alike = push st (node.Lt j i) (of_both (operate op.Gt) p q) good (gt_value numbering (at st i) (at st j) p q hi.is hj.is)
  joined_right st op.Le i j p q good hi hj alike = push st (node.Le i j) (of_both (operate op.Le) p q) good (le_value numbering (at st i) (at st j) p q hi.is hj.is)
  joined_right st op.Ge i j p q good hi hj alike = push st (node.Le j i) (of_both (operate op.Ge) p q) good (ge_value numbering (at st i) (at st j) p q hi.is hj.is)
  joined_right st op.And i j p q good hi hj alike = push st (node.And i j) (of_both (operate op.And) p q) good (and_value numbering (at st i) (at st j) p q hi.is hj.is)
  joined_right st op.Or i j p q good hi hj alike = push st (node.Or i j) (of_both (operate op.Or) p q) good (or_value numbering (at st i) (at st j) p q hi.is hj.is)
  joined_right st op.Xor i j p q good hi hj alike = push st (node.Xor i j) (of_both (operate op.Xor) p q) good (xor_value numbering (at st i) (at st j) p q hi.is hj.is)
  joined_right st op.Eq i j p q good hi hj alike = push st (node.Eq i j) (of_both (operate op.Eq) p q) good (same_value numbering (at st i) (at st j) p q hi.is hj.is (alike tt))
  joined_right st op.Ne i j p q good hi hj alike =
      not_right st (node.Eq i j) (of_both (operate op.Ne) p q) good (λ v e. ap (λ (b : Bool). number_of (not b)) (one_number (int_eq (at st i) (at st j))) ∙ ne_value numbering (at st i) (at st j) p q hi.is hj.is v (alike tt) e)
  joined_right st op.Xnor i j p q good hi hj alike =
      not_right st (node.Xor i j) (of_both (operate op.Xnor) p q) good (λ v e. ap number_of (equal_not (truth_of (at st i)) (truth_of (at st j))) ∙ xnor_value numbering (at st i) (at st j) p q hi.is hj.is v e)
  joined_right st op.Iff i j p q good hi hj alike =
      not_right st (node.Xor i j) (of_both (operate op.Iff) p q) good (λ v e. ap number_of (equal_not (truth_of (at st i)) (truth_of (at st j))) ∙ iff_value numbering (at st i) (at st j) p q hi.is hj.is v e)
  joined_right st op.Implies i j p q good hi hj alike = push st (node.Or i j) (of_both (operate op.Implies) p q) good (implies_value numbering (at st i) (at st j) p q hi.is hj.is)

  -- ---- cases

  -- the node of a case has the value of the branch that it takes
  choose_value : (x y z : ℤ) (c : Option Value) (b : BranchDenotation) (branch : Option BranchDenotation) (use' : BranchDenotation → Option Value)
      → Is numbering x c → Is numbering y (use' b) → Is numbering z (and_then branch use') → (u : Value) → and_then (and_then (and_then c truth) elim [ true ↦ Some b | false ↦ branch ]) use' ≡ Some u → (if truth_of x then y else z) ≡ code numbering u
  choose_value x y z None b branch use' hx hy hz u e = cc
  choose_value x y z (Some w) b branch use' hx hy hz u e = by (truth w) refl e
    where
      by : (t : Option Bool) → truth w ≡ t → and_then (and_then t elim [ true ↦ Some b | false ↦ branch ]) use' ≡ Some u → (if truth_of x then y else z) ≡ code numbering u
      by None f e = cc
      by (Some true) f e = if_true (truth_of x) y z (ap truth_of (hx w refl) ∙ truth_code numbering w true f) ∙ hy u e
      by (Some false) f e = if_false (truth_of x) y z (ap truth_of (hx w refl) ∙ truth_code numbering w false f) ∙ hz u e

  -- the value of an expression, as it is read
  abbrev pub on : Bool → ℕ → Expr → Option Value
  on = value_on names symbols states

  -- a maker makes nodes that have these values, of what is ready
  abbrev pub MakesAs : Property → Maker → (Bool → ℕ → Expr → Option Value) → Type 0
  MakesAs ready make means = (row : ℕ) (after_step : Bool) (e : Expr) (st : Store) → ready row after_step e → IsGood st → Makes st (make row after_step e st) (means after_step row e)

  -- those of the expressions
  abbrev pub MakesValues : Property → Maker → Type 0
  MakesValues ready make = MakesAs ready make on

  -- the branch that a case takes
  abbrev pub branch_on : Bool → ℕ → List Branch → Option BranchDenotation
  branch_on after_step row branches = taken_in (environment names symbols states after_step row) (environment names symbols states true row) (map branch_denotation_of branches)

  module _ (ready ends_ready : Property) (make ends : Maker) (makes : MakesValues ready make) (use' : Bool → ℕ → Denotation → Option Value)
      (keeps : Store → Type 0) (stays : (a b : Store) → ExtendsIn names symbols states numbers a b → keeps a → keeps b)
      (ends_make : (row : ℕ) (after_step : Bool) (e : Expr) (st : Store) → ends_ready row after_step e → keeps st → IsGood st → Makes st (ends row after_step e st) (use' after_step row (denotation_of e))) where
    abbrev taken_value : Bool → ℕ → List Branch → Option Value
    taken_value after_step row branches = and_then (branch_on after_step row branches) (λ b. use' after_step row b.value)

    pub cases_right : (row : ℕ) (after_step : Bool) (branches : List Branch) (st : Store) → BranchesReady names symbols states ready ends_ready row after_step branches → keeps st → IsGood st → Makes st (cases_made make ends row after_step branches st) (taken_value after_step row branches)
    cases_right row after_step [] st r k good = push st (node.Const (pos 0)) None good (λ v e. no_value v e)
    cases_right row after_step (b ∷ []) st r k good =
        subst (Makes st (ends row after_step (out-Branch b).value st)) (ap (λ (s : BranchDenotation). use' after_step row s.value) (sym (branch_is b))) (ends_make row after_step (out-Branch b).value st r k good)
    cases_right row after_step (b ∷ next ∷ more) st r k good =
        let now = environment names symbols states after_step row in
        let after = environment names symbols states true row in
        let means : Option Value = use' after_step row (denotation_of (out-Branch b).value) in
        let c = make row after_step (out-Branch b).cond st in
        let v = ends row after_step (out-Branch b).value c.0 in
        let o = cases_made make ends row after_step (next ∷ more) v.0 in
        let rc = makes row after_step (out-Branch b).cond st r.0 good in
        let rv = ends_make row after_step (out-Branch b).value c.0 r.1 (stays st c.0 rc.extends k) rc.good in
        let ro = cases_right row after_step (next ∷ more) v.0 r.2 (stays c.0 v.0 rv.extends (stays st c.0 rc.extends k)) rv.good in
        let goes_o = extends-trans names symbols states numbers c.0 v.0 o.0 rv.extends ro.extends in
        let hc = has-extended names symbols states numbers c.0 o.0 c.1 (on after_step row (out-Branch b).cond) goes_o rc.has in
        let hv = has-extended names symbols states numbers v.0 o.0 v.1 means ro.extends rv.has in
        let rest : Makes st o (taken_value after_step row (next ∷ more)) =
        behind_right names symbols states numbers st c o (on after_step row (out-Branch b).cond) (taken_value after_step row (next ∷ more)) rc (behind_right names symbols states numbers c.0 v o means (taken_value after_step row (next ∷ more)) rv ro) in
        let law : (u : Value) → taken_value after_step row (b ∷ next ∷ more) ≡ Some u → (if truth_of (at o.0 c.1) then at o.0 v.1 else at o.0 o.1) ≡ code numbering u =
        λ u e. choose_value (at o.0 c.1) (at o.0 v.1) (at o.0 o.1) (on after_step row (out-Branch b).cond)
        (record { cond = denotation_of (out-Branch b).cond; value = denotation_of (out-Branch b).value }) (branch_on after_step row (next ∷ more)) (λ s. use' after_step row s.value) hc.is hv.is ro.has.is u
        (subst (λ (s : BranchDenotation). and_then (and_then (holds_in now after s) elim [ true ↦ Some s | false ↦ branch_on after_step row (next ∷ more) ]) (λ s. use' after_step row s.value) ≡ Some u) (branch_is b) e) in
        behind_right names symbols states numbers st o (pushed (node.Choose c.1 v.1 o.1) o.0) (taken_value after_step row (next ∷ more)) (taken_value after_step row (b ∷ next ∷ more)) rest
        (push o.0 (node.Choose c.1 v.1 o.1) (taken_value after_step row (b ∷ next ∷ more)) ro.good law)
