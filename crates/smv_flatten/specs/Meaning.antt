-- The values of nodes and those of the expressions that they are made of.
use Rattle.std.specs.Prelude.{◌≡◌, ℕ, zero, suc, ◌<◌, Bool, true, false, List, [], ◌∷◌, ◌++◌, length, ℤ, pos, Option, Some, None, slice_get}
use Rattle.std.specs.Ordering.{int_eq}
use Rattle.smv_ast.specs.declared.syntax.Op.{Op}
use Rattle.smv_ast.specs.declared.syntax.Op.TheVariants as op
use Rattle.smv_ast.specs.declared.syntax.Expr.{Expr, Expr-F, out-Expr}
use Rattle.smv_ast.specs.declared.syntax.Choice.{Choice, Choice-F, out-Choice}
use Rattle.smv_ast.specs.declared.syntax.Branch.{Branch, out-Branch}
use Rattle.smv_meaning.specs.declared.value.Value.{Value}
use Rattle.smv_meaning.specs.declared.value.Value.TheVariants.{Boolean, Number, Symbol}
use Rattle.smv_meaning.specs.declared.table.Slot.{Slot}
use Rattle.smv_meaning.specs.Value.{Name, and_then, same}
use Rattle.fixpoint.specs.Fixpoints.{entry}
use Rattle.smv_meaning.specs.Paths.{QualifiedName, Binding, IsVariable, IsDefine, IsFormal}
use Rattle.smv_meaning.specs.InstanceTable.{binding_view}
use Rattle.smv_meaning.specs.Slots.{name_of_slot, binding_in, resolve_slot}
use Rattle.smv_meaning.specs.Denotations.{Environment, denotation_of}
use Rattle.smv_meaning.specs.Values.{Valuation, environment_by, valuation_in}
use Rattle.flat_model.specs.declared.nodes.FlatNode.{FlatNode}
use Rattle.flat_model.specs.Numbers.{number_of}
use Rattle.flat_model.specs.Evaluation.{eval, value_at}
use Rattle.smv_flatten.specs.declared.store.Store.{Store}
use Rattle.smv_flatten.specs.declared.names.NameTables.{NameTables}
use Rattle.smv_flatten.specs.Names.{SymbolSet, symbol_number, path_number}
use Rattle.smv_flatten.specs.Making.{Made, shared_node, is_free}

-- ---- values as numbers

-- the number of a value: a truth value is 0 or 1, a symbol its number
abbrev pub code : SymbolSet → Value → ℤ
code symbols (Boolean b) = number_of b
code symbols (Number n) = n
code symbols (Symbol name) = pos (symbol_number symbols name)

-- two values are equal exactly where their numbers are
abbrev pub Agree : SymbolSet → Value → Value → Type 0
Agree symbols v w = int_eq (code symbols v) (code symbols w) ≡ same v w

-- the same of two values, where there are both
abbrev pub DoAgree : SymbolSet → Option Value → Option Value → Type 0
DoAgree symbols o q = (v w : Value) → o ≡ Some v → q ≡ Some w → Agree symbols v w

-- the operators that compare values of any kind
abbrev pub IsComparison : Op → Type 0
IsComparison op.Eq = Unit {0}
IsComparison op.Ne = Unit {0}
IsComparison o = ⊥

-- a property of expressions that are read in the instance of a row, after the step or now
abbrev pub Property : Type 1
Property = ℕ → Bool → Expr → Type 0

-- whether a value is allowed, as a value, where both are known
abbrev pub tested : Option Value → (Value → Option Bool) → Option Value
tested o allows = and_then o (λ v. and_then (allows v) (λ b. Some (Boolean b)))

-- a value, where there is one, is a number
abbrev pub IsWhole : Option Value → Type 0
IsWhole o = (v : Value) → o ≡ Some v → (n : ℤ) × (v ≡ Number n)

-- the values of nodes, given the numbers of the variables now and after the step
abbrev pub node_values : (Bool → ℕ → ℤ) → List FlatNode → List ℤ
node_values numbers nodes = eval (numbers false) (numbers true) nodes

-- over the names of the instances, the symbols, and the values of the variables now and after the
-- step
module _ (names : NameTables) (symbols : Environment) (states : Bool → Valuation ℕ) where
  -- the values of the names of the instances, now and after the step
  abbrev pub value_of_name : Bool → QualifiedName ℕ → Option Value
  value_of_name after_step = valuation_in (binding_in names.table.now) symbols (states after_step)

  -- the environment of an instance
  abbrev pub environment : Bool → ℕ → Environment
  environment after_step row = environment_by (binding_in names.table.now) symbols
      (value_of_name after_step) row

  -- the value of an expression in an instance, the whole read after the step or now
  abbrev pub value_on : Bool → ℕ → Expr → Option Value
  value_on after_step row e = (denotation_of e).value (environment after_step row)
      (environment true row)

  -- the value of the name of a slot
  abbrev pub slot_value : Bool → ℕ → Option Value
  slot_value after_step k = and_then (slice_get names.table.now.slots k)
      (λ slot. value_of_name after_step (name_of_slot slot))

  -- ---- which expressions have nodes of their values

  -- the value doesn't depend on the state after the step
  abbrev pub IsSteady : Expr → Type 0
  IsSteady e = (now after : Environment) → (denotation_of e).value now after
      ≡ (denotation_of e).value now now

  -- the expression of a binding is steady and has a property
  abbrev pub BindingReady : Property → Bool → ℕ → Binding ℕ → Type 0
  BindingReady ready after_step row (IsDefine right) = IsSteady right × ready row after_step right
  BindingReady ready after_step row (IsFormal outer actual) = IsSteady actual
      × ready outer after_step actual
  BindingReady ready after_step row m = Unit {0}

  -- the same of the binding of a slot, if there is one
  abbrev pub SlotReady : Property → Bool → Option Slot → Type 0
  SlotReady ready after_step None = Unit {0}
  SlotReady ready after_step (Some slot) = BindingReady ready after_step slot.row
      (binding_view slot.binding)

  -- the same of the slot that a path resolves to, if it resolves to one
  abbrev pub PathReady : Property → Bool → Option ℕ → Type 0
  PathReady ready after_step None = Unit {0}
  PathReady ready after_step (Some k) = SlotReady ready after_step
      (slice_get names.table.now.slots k)

  -- the conditions of a case, but for the last, have a property, and its values another one
  abbrev pub BranchesReady : Property → Property → ℕ → Bool → List Branch → Type 0
  BranchesReady ready ends row after_step [] = Unit {0}
  BranchesReady ready ends row after_step (b ∷ []) = ends row after_step (out-Branch b).value
  BranchesReady ready ends row after_step (b ∷ next ∷ more) = ready row after_step
      (out-Branch b).cond × ends row after_step (out-Branch b).value
      × BranchesReady ready ends row after_step (next ∷ more)

  -- as a right side an expression allows its value alone
  abbrev pub IsSingle : Bool → ℕ → Expr → Type 0
  IsSingle after_step row e = (v : Value) → (denotation_of e).allows (environment after_step row)
      (environment true row) v ≡ and_then (value_on after_step row e) (λ w. Some (same v w))

  -- an expression has a property, allows its value alone, and that value agrees with another one
  abbrev pub TestReady : Property → ℕ → Bool → Option Value → Expr → Type 0
  TestReady ready row after_step o e = ready row after_step e × IsSingle after_step row e
      × DoAgree names.symbols.now o (value_on after_step row e)

  -- the same of the parts of a set
  abbrev pub PartsReady : Property → ℕ → Bool → Option Value → List Expr → Type 0
  PartsReady ready row after_step o [] = Unit {0}
  PartsReady ready row after_step o (a ∷ more) = TestReady ready row after_step o a
      × PartsReady ready row after_step o more

  -- the same of a choice; only a number is tested against `low..high`
  abbrev pub ChoiceReady : Property → ℕ → Bool → Option Value → Choice-F Choice Expr Branch → Type 0
  ChoiceReady ready row after_step o (Choice-F.Each parts) = PartsReady ready row after_step o parts
  ChoiceReady ready row after_step o (Choice-F.Between low high) = IsWhole o

  -- the parts of an expression have a property, and the values that it compares agree
  abbrev pub LayerReady : Property → ℕ → Bool → Expr-F Choice Expr Branch → Type 0
  LayerReady ready row after_step Expr-F.True = Unit {0}
  LayerReady ready row after_step Expr-F.False = Unit {0}
  LayerReady ready row after_step (Expr-F.Number n) = Unit {0}
  LayerReady ready row after_step (Expr-F.Name path) = PathReady ready after_step
      (resolve_slot names.table.now row path.names)
  LayerReady ready row after_step (Expr-F.Neg a) = ready row after_step a
  LayerReady ready row after_step (Expr-F.Not a) = ready row after_step a
  LayerReady ready row after_step (Expr-F.Binary o a b) = ready row after_step a
      × ready row after_step b
      × (IsComparison o → DoAgree names.symbols.now (value_on after_step row a)
      (value_on after_step row b))
  LayerReady ready row after_step (Expr-F.Within a choice) = ready row after_step a
      × ChoiceReady ready row after_step (value_on after_step row a) (out-Choice choice)
  LayerReady ready row after_step (Expr-F.Cases branches) = BranchesReady ready ready row after_step
      branches
  LayerReady ready row after_step (Expr-F.Next a) = ready row true a
  LayerReady ready row after_step (Expr-F.Pick choice) = Unit {0}

  -- an expression is at most so high, through all that it reads; what its definitions and actuals
  -- read does not depend on the state after the step, and the values that it compares agree
  abbrev pub Ready : ℕ → Property
  Ready zero row after_step e = ⊥
  Ready (suc depth) row after_step e = LayerReady (Ready depth) row after_step (out-Expr e)

  -- the same of a right side, given the properties of the whole, of its parts and of the values of a
  -- case, and the value of the variable
  abbrev pub RightLayerReady : Property → Property → Property → Option Value → ℕ → Bool → Expr
      → Bool → Expr-F Choice Expr Branch → Type 0
  RightLayerReady whole ready ends o row after_step e free (Expr-F.Pick choice) = ChoiceReady ready
      row after_step o (out-Choice choice)
  RightLayerReady whole ready ends o row after_step e true (Expr-F.Cases branches) =
      BranchesReady ready ends row after_step branches
  RightLayerReady whole ready ends o row after_step e free layer = TestReady whole row after_step o
      e

  -- the same of a right side that is at most so high
  abbrev pub RightReady : ℕ → Option Value → Property
  RightReady zero o row after_step e = ⊥
  RightReady (suc depth) o row after_step e = RightLayerReady (Ready (suc depth)) (Ready depth)
      (RightReady depth o) o row after_step e (is_free e) (out-Expr e)

  -- over the numbers of the variables, now and after the step
  module _ (numbers : Bool → ℕ → ℤ) where
    -- the value of a node that has been made
    abbrev pub at_node : Store → ℕ → ℤ
    at_node st k = value_at (node_values numbers st.nodes) k

    -- a node has been made, and its value is the number of this one, if it is defined
    pub record Has (st : Store) (k : ℕ) (o : Option Value) : Type 0 where
      pub made : k < length st.nodes
      pub is : (v : Value) → o ≡ Some v → at_node st k ≡ code names.symbols.now v

    -- a store has the nodes of another one, and more after them
    pub record Extends (old new : Store) : Type 0 where
      pub more : List FlatNode
      pub is : new.nodes ≡ old.nodes ++ more

    -- the node of each definition and formal has its value
    abbrev pub IsGood : Store → Type 0
    IsGood st = (after_step : Bool) (k n : ℕ) → shared_node st.shared after_step k ≡ Some n
        → Has st n (slot_value after_step k)

    -- a run extends a store, leaves it good, and makes a node of this value
    pub record Makes (st : Store) (m : Made) (o : Option Value) : Type 0 where
      pub extends : Extends st m.0
      pub good : IsGood m.0
      pub has : Has m.0 m.1 o

    -- each variable with a value has a number, and its number in the state is that of the value
    abbrev pub HaveVariables : Type 0
    HaveVariables = (after_step : Bool) (k : ℕ) (slot : Slot) (v : Value)
        → slice_get names.table.now.slots k ≡ Some slot → binding_view slot.binding ≡ IsVariable
        → states after_step (name_of_slot slot) ≡ Some v →
        (n : ℕ) × (entry names.variables.now k ≡ Some n)
        × (numbers after_step n ≡ code names.symbols.now v)

    -- a path that is a symbol has its number
    abbrev pub HaveSymbols : Type 0
    HaveSymbols = (path : List Name) (v : Value) → symbols path ≡ Some v
        → pos (path_number names.symbols.now path) ≡ code names.symbols.now v
