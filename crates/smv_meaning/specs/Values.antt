-- The valuation of a state: a variable has the value of the state, a definition or a formal the
-- value of its expression in its own instance; a path that resolves to no declaration may be a
-- symbol of the program.
use Rattle.std.specs.Prelude.{Bool, true, false, List, [], ◌∷◌, ◌++◌, Option, Some, None}
use Rattle.std.specs.List.{list_any}
use Rattle.std.specs.Str.{bytes_eq}
use Rattle.smv_ast.specs.declared.syntax.Expr.{Expr}
use Rattle.smv_ast.specs.declared.program.Program.{Program}
use Rattle.smv_meaning.specs.declared.value.Value.{Value}
use Rattle.smv_meaning.specs.declared.value.Value.TheVariants.{Symbol}
use Rattle.smv_meaning.specs.Value.{Name, and_then}
use Rattle.fixpoint.specs.Fixpoints.{fixpoint}
use Rattle.smv_meaning.specs.Paths.{QualifiedName, Binding, IsVariable, IsDefine, IsFormal, resolve}
use Rattle.smv_meaning.specs.Instances.{Instance, path_of, binding_at}
use Rattle.smv_meaning.specs.Symbols.{symbols}
use Rattle.smv_meaning.specs.Denotations.{Environment, denotation_of}

-- a state: the value of each variable, by the variable's path from `main`
abbrev pub State : Type 0
State = List Name → Option Value

-- ---- symbols

-- whether a name is a symbol of a type of the program
abbrev pub is_symbol : Program → Name → Bool
is_symbol program name = list_any (λ n. bytes_eq n name) (symbols program)

-- a path of a single name that is a symbol denotes it
abbrev pub symbol_of : Program → List Name → Option Value
symbol_of program (name ∷ []) = elim (is_symbol program name)
    [ true ↦ Some (Symbol name) | false ↦ None ]
symbol_of program path = None

-- ---- values of names

-- the values of the qualified names
abbrev pub Valuation : Type 0 → Type 0
Valuation P = QualifiedName P → Option Value

-- the value at a path: that of the declaration that it resolves to; a path that resolves to none
-- may be a symbol
abbrev pub value_at_path : {P : Type 0} → Environment → Valuation P → List Name
    → Option (QualifiedName P) → Option Value
value_at_path symbols valuation path None = symbols path
value_at_path symbols valuation path (Some qualified) = valuation qualified

-- over the bindings of the instances, and the symbols
module _ {P : Type 0} (binding : QualifiedName P → Option (Binding P)) (symbols : Environment) where
  -- the environment of an instance
  abbrev pub environment_by : Valuation P → P → Environment
  environment_by valuation instance path = value_at_path symbols valuation path
      (resolve binding instance path)

  -- the value of an expression, its names read in an instance
  abbrev pub read_by : Valuation P → P → Expr → Option Value
  read_by valuation instance e = (denotation_of e).value (environment_by valuation instance)
      (environment_by valuation instance)

  -- the value of a binding: a variable's by the state, a definition's in its own instance, a
  -- formal's in the instance of its actual
  abbrev pub value_of_binding : Valuation P → Valuation P → QualifiedName P → Binding P
      → Option Value
  value_of_binding state valuation qualified IsVariable = state qualified
  value_of_binding state valuation qualified (IsDefine right) = read_by valuation qualified.instance
      right
  value_of_binding state valuation qualified (IsFormal instance actual) = read_by valuation instance
      actual
  value_of_binding state valuation qualified m = None

  -- the transfer function of valuations
  abbrev pub valuation_step : Valuation P → Valuation P → Valuation P
  valuation_step state valuation qualified = and_then (binding qualified)
      (value_of_binding state valuation qualified)

  -- the valuation of a state; a name on a cycle of definitions has no value
  abbrev pub valuation_in : Valuation P → Valuation P
  valuation_in state = fixpoint (valuation_step state)

-- ---- the values of an expression

-- the value that a state gives a variable of an instance
abbrev pub variable_in : State → Valuation Instance
variable_in s qualified = s (path_of qualified.instance ++ qualified.name ∷ [])

-- the values of the names of the instances in a state
abbrev pub values_in : Program → State → Valuation Instance
values_in program s = valuation_in (binding_at program) (symbol_of program) (variable_in s)

-- the environment of an instance in a state
abbrev pub environment_in : Program → State → Instance → Environment
environment_in program s = let valuation : Valuation Instance = valuation_in (binding_at program) (symbol_of program) (variable_in s) in environment_by (binding_at program) (symbol_of program) valuation

-- the value of an expression in an instance, given a state and the state after it
abbrev pub value_in : Program → State → State → Instance → Expr → Option Value
value_in program s t instance e = (denotation_of e).value (environment_in program s instance)
    (environment_in program t instance)

-- whether an expression allows a value in an instance, given a state and the state after it
abbrev pub allows_in : Program → State → State → Instance → Expr → Value → Option Bool
allows_in program s t instance e = (denotation_of e).allows (environment_in program s instance)
    (environment_in program t instance)
