-- The check of items, over the rows of the instance table.
use Rattle.std.specs.Prelude.{ℕ, Bool, List, Option}
use Rattle.std.specs.Option.{option_map}
use Rattle.smv_ast.specs.declared.syntax.Expr.{Expr}
use Rattle.smv_ast.specs.declared.syntax.Span.{Span}
use Rattle.smv_meaning.specs.declared.met_items.ValuedState.{ValuedState}
use Rattle.smv_meaning.specs.declared.valuation.RunContext.{RunContext}
use Rattle.smv_meaning.specs.Value.{Name}
use Rattle.smv_meaning.specs.Runs.{written_state, is_true_in, is_assigned, meets, first_fault, unless_met}
use Rattle.smv_meaning.specs.Items.{Item, at_of}
use Rattle.smv_meaning.specs.declared.value.Value.{Value}
use Rattle.smv_meaning.specs.Values.{State, values_in, value_in, allows_in}
use Rattle.smv_meaning.specs.Checking.{instance_at, IsValuationOf}

-- the table is the valuation of the written state
abbrev pub IsValued : RunContext → ValuedState → Type 0
IsValued context state = IsValuationOf context state.written.now state.solution.now

-- the state that is written
abbrev pub state_in : ValuedState → State
state_in state = written_state state.written.now

-- the value of an expression in an instance, given by number
abbrev pub value_row : RunContext → ℕ → ValuedState → ValuedState → Expr → Option Value
value_row context row now after e = value_in context.program.now (state_in now) (state_in after)
    (instance_at context.table row) e

-- whether an expression allows a value there
abbrev pub allows_row : RunContext → ℕ → ValuedState → ValuedState → Expr → Value → Option Bool
allows_row context row now after e = allows_in context.program.now (state_in now)
    (state_in after) (instance_at context.table row) e

-- the value of a name of an instance in a state
abbrev pub own_row : RunContext → ℕ → ValuedState → Name → Option Value
own_row context row state name = values_in context.program.now (state_in state)
    (record { instance = instance_at context.table row; name = name })

-- whether an expression is true in an instance
abbrev pub true_in : RunContext → ℕ → ValuedState → ValuedState → Expr → Bool
true_in context row now after e = is_true_in context.program.now (instance_at context.table row)
    (state_in now) (state_in after) e

-- whether a name of an instance has a value that its right side allows
abbrev pub assigned_in : RunContext → ℕ → ValuedState → ValuedState → ValuedState → Name → Expr → Bool
assigned_in context row own now after name right = is_assigned context.program.now
    (instance_at context.table row) (state_in own) (state_in now) (state_in after) name
    right

-- whether an instance, given by number, meets an item in a state and the state before it, if any
abbrev pub met_in : RunContext → ℕ → Option ValuedState → ValuedState → Item → Bool
met_in context row before now = meets context.program.now (option_map state_in before)
    (state_in now) (instance_at context.table row)

-- the first of these items that an instance, given by number, does not meet
abbrev pub first_unmet : RunContext → ℕ → Option ValuedState → ValuedState → List Item → Option Span
first_unmet context row before now = first_fault
    (λ item. unless_met (met_in context row before now item) (at_of item))
