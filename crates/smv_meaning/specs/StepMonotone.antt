-- The transfer functions of aliases and of valuations are monotone.
use Rattle.std.specs.Prelude.{ℕ, List, [], ◌∷◌, Option, Some, None, slice_get}
use Rattle.smv_ast.specs.declared.syntax.Expr.{Expr}
use Rattle.smv_ast.specs.declared.syntax.Expr.TheVariants as expr
use Rattle.smv_meaning.specs.declared.table.InstanceTable.{InstanceTable}
use Rattle.smv_meaning.specs.declared.value.Value.{Value}
use Rattle.smv_meaning.specs.Value.{Name}
use Rattle.fixpoint.specs.Fixpoints.{Under}
use Rattle.smv_meaning.specs.Paths.{QualifiedName, Binding, Aliases, IsVariable, IsInstance, IsDefine, IsFormal, IsNothing, walked, aliased, alias_of_binding, alias_step, resolve}
use Rattle.smv_meaning.specs.InstanceTable.{binding_view}
use Rattle.smv_meaning.specs.Slots.{slot_of, name_of_slot, binding_in, by_slot, TransferFunction, slot_step, alias_slots}
use Rattle.smv_meaning.specs.Denotations.{Environment}
use Rattle.smv_ast.specs.declared.program.Program.{Program}
use Rattle.smv_meaning.specs.Valuation.{variable_at, valuation_slots}
use Rattle.smv_meaning.specs.Values.{State, symbol_of, Valuation, value_at_path, environment_by, read_by, value_of_binding, valuation_step}
use Rattle.fixpoint.specs.OptionOrder.{Le}
use Rattle.smv_meaning.specs.Monotone.{then_le}
use Rattle.smv_meaning.specs.MentionedPaths.{denotation_monotone}

-- ---- steps on names

module _ {P : Type 0} (binding : QualifiedName P → Option (Binding P)) where
  -- the resolution of a path to an instance is monotone in the aliases
  pub walked_monotone : (s t : Aliases P) → Under s t → (path : List Name) (instance : P)
      → Le (walked s instance path) (walked t instance path)
  walked_monotone s t u [] instance = λ p e. e
  walked_monotone s t u (name ∷ more) instance =
      then_le (s (record { instance = instance; name = name }))
      (t (record { instance = instance; name = name })) (λ p. walked s p more)
      (λ p. walked t p more) (u (record { instance = instance; name = name }))
      (walked_monotone s t u more)

  -- the instance that an actual denotes is monotone in the aliases
  aliased_monotone : (s t : Aliases P) → Under s t → (instance : P) (e : Expr)
      → Le (aliased s instance e) (aliased t instance e)
  aliased_monotone s t u instance (expr.Name path) = walked_monotone s t u path.names instance
  aliased_monotone s t u instance _ = λ p e. e

  -- the instance that a binding is an alias of is monotone in the aliases
  pub alias_of_binding_monotone : (s t : Aliases P) → Under s t → (m : Binding P)
      → Le (alias_of_binding s m) (alias_of_binding t m)
  alias_of_binding_monotone s t u IsVariable = λ p e. e
  alias_of_binding_monotone s t u (IsInstance instance) = λ p e. e
  alias_of_binding_monotone s t u (IsDefine right) = λ p e. e
  alias_of_binding_monotone s t u (IsFormal instance actual) = aliased_monotone s t u instance
      actual
  alias_of_binding_monotone s t u IsNothing = λ p e. e

  -- the transfer function of aliases is monotone
  pub alias_step_monotone : (s t : Aliases P) → Under s t
      → Under (alias_step binding s) (alias_step binding t)
  alias_step_monotone s t u qualified = then_le (binding qualified) (binding qualified)
      (alias_of_binding s) (alias_of_binding t) (λ m e. e) (alias_of_binding_monotone s t u)

  module _ (symbols : Environment) where
    -- the value at a path is monotone in the valuation
    at_path_monotone : (s t : Valuation P) → Under s t
        → (path : List Name) (o : Option (QualifiedName P))
        → Le (value_at_path symbols s path o) (value_at_path symbols t path o)
    at_path_monotone s t u path None = λ v e. e
    at_path_monotone s t u path (Some qualified) = u qualified

    -- the environment of an instance is monotone in the valuation
    environment_monotone : (s t : Valuation P) → Under s t → (instance : P)
        → Under (environment_by binding symbols s instance)
        (environment_by binding symbols t instance)
    environment_monotone s t u instance path = at_path_monotone s t u path
        (resolve binding instance path)

    -- the value of an expression in an instance is monotone in the valuation
    read_monotone : (s t : Valuation P) → Under s t → (instance : P) (e : Expr)
        → Le (read_by binding symbols s instance e) (read_by binding symbols t instance e)
    read_monotone s t u instance e = let r = environment_monotone s t u instance in (denotation_monotone e).value _ _ _ _ (record { now = r; after = r })

    -- the value of a binding is monotone in the valuation
    pub value_of_binding_monotone : (state s t : Valuation P) → Under s t
        → (qualified : QualifiedName P) (m : Binding P)
        → Le (value_of_binding binding symbols state s qualified m)
        (value_of_binding binding symbols state t qualified m)
    value_of_binding_monotone state s t u qualified IsVariable = λ v e. e
    value_of_binding_monotone state s t u qualified (IsInstance instance) = λ v e. e
    value_of_binding_monotone state s t u qualified (IsDefine right) = read_monotone s t u
        qualified.instance right
    value_of_binding_monotone state s t u qualified (IsFormal instance actual) = read_monotone s t u
        instance actual
    value_of_binding_monotone state s t u qualified IsNothing = λ v e. e

    -- the transfer function of valuations is monotone
    pub valuation_step_monotone : (state s t : Valuation P) → Under s t
        → Under (valuation_step binding symbols state s) (valuation_step binding symbols state t)
    valuation_step_monotone state s t u qualified = then_le (binding qualified) (binding qualified)
        (value_of_binding binding symbols state s qualified)
        (value_of_binding binding symbols state t qualified) (λ m e. e)
        (value_of_binding_monotone state s t u qualified)

-- ---- steps on slots

-- a table by slots, read by names, is monotone
pub by_slot_monotone : {A : Type 0} (table : InstanceTable) (s t : ℕ → Option A) → Under s t
    → Under (by_slot table s) (by_slot table t)
by_slot_monotone table s t u qualified = then_le (slot_of table qualified) (slot_of table qualified)
    s t (λ k e. e) u

-- a step on slots is monotone where its transfer function is
pub slot_step_monotone : {A : Type 0} (table : InstanceTable) (transfer : TransferFunction A)
    → ((s t : QualifiedName ℕ → Option A) → Under s t
    → (qualified : QualifiedName ℕ) (m : Binding ℕ)
    → Le (transfer s qualified m) (transfer t qualified m)) → (s t : ℕ → Option A) → Under s t
    → Under (slot_step table transfer s) (slot_step table transfer t)
slot_step_monotone table transfer monotone s t u k =
    then_le (slice_get table.slots k) (slice_get table.slots k)
    (λ slot. transfer (by_slot table s) (name_of_slot slot) (binding_view slot.binding))
    (λ slot. transfer (by_slot table t) (name_of_slot slot) (binding_view slot.binding))
    (λ slot e. e)
    (λ slot. monotone (by_slot table s) (by_slot table t) (by_slot_monotone table s t u)
    (name_of_slot slot) (binding_view slot.binding))

-- the transfer function of aliases on slots is monotone
pub alias_slots_monotone : (table : InstanceTable) (s t : ℕ → Option ℕ) → Under s t
    → Under (alias_slots table s) (alias_slots table t)
alias_slots_monotone table = slot_step_monotone table (λ alias qualified. alias_of_binding alias)
    (λ s t u qualified m. alias_of_binding_monotone (binding_in table) s t u m)

-- the transfer function of valuations on slots is monotone
pub valuation_slots_monotone : (program : Program) (table : InstanceTable) (state : State)
    (s t : ℕ → Option Value) → Under s t
    → Under (valuation_slots program table state s) (valuation_slots program table state t)
valuation_slots_monotone program table state =
    slot_step_monotone table (value_of_binding (binding_in table) (symbol_of program)
    (variable_at table state))
    (value_of_binding_monotone (binding_in table) (symbol_of program)
    (variable_at table state))
