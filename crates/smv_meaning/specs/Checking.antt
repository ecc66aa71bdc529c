-- The instances and valuations of the run check, by number.
use Rattle.std.specs.Prelude.{ℕ, ◌+◌, ◌<◌, List, [], ◌∷◌, ◌++◌, length, Option, Some, None, slice_get, All}
use Rattle.smv_ast.specs.declared.program.Program.{Program}
use Rattle.smv_meaning.specs.declared.table.InstanceTable.{InstanceTable}
use Rattle.smv_meaning.specs.declared.table.Slot.{Slot}
use Rattle.smv_meaning.specs.declared.order.Waiting.{Waiting}
use Rattle.smv_meaning.specs.declared.valuation.RunContext.{RunContext}
use Rattle.smv_meaning.specs.declared.value.Value.{Value}
use Rattle.smv_meaning.specs.declared.run.RunState.{RunState}
use Rattle.smv_meaning.specs.Runs.{written_state}
use Rattle.smv_meaning.specs.Valuation.{IsValuationTable}
use Rattle.smv_meaning.specs.Value.{and_then}
use Rattle.smv_meaning.specs.Paths.{Binding, IsInstance}
use Rattle.smv_meaning.specs.Instances.{Instance, subtree}
use Rattle.smv_meaning.specs.InstanceTable.{nth_instance, row_instances, binding_view, IsTableOf}

-- the table is the instance table of the program
abbrev pub IsTableOfProgram : Program → InstanceTable → Type 0
IsTableOfProgram program table = IsTableOf program table.rows table.firsts table.slots

-- the instance of a number
abbrev pub instance_at : InstanceTable → ℕ → Instance
instance_at table k = nth_instance (row_instances table.rows) k

-- the slot of the k-th name of an instance
abbrev pub slot_in : InstanceTable → ℕ → ℕ → Option Slot
slot_in table row k = and_then (slice_get table.firsts row)
    (λ first. slice_get table.slots (first + k))

-- the instance that a binding declares
abbrev pub declared_instance : {P : Type 0} → Binding P → List P
declared_instance (IsInstance instance) = instance ∷ []
declared_instance m = []

-- the number of the instance that a slot declares
abbrev pub inner_slot : Option Slot → List ℕ
inner_slot None = []
inner_slot (Some slot) = declared_instance (binding_view slot.binding)

-- these numbers are rows of the table
abbrev pub AreRows : InstanceTable → List ℕ → Type 0
AreRows table order = All (λ row. row < length table.rows) order

-- an instance that is still to be visited, down to a depth
abbrev pub waiting_at : ℕ → ℕ → Waiting
waiting_at left row = record { row = row; left = left }

-- the instances that are still to be visited, the subtree of the top of the stack first
abbrev pub waiting_instances : Program → InstanceTable → List Waiting → List Instance
waiting_instances program table [] = []
waiting_instances program table (w ∷ more) = waiting_instances program table more
    ++ subtree w.left program (instance_at table w.row)

-- the instances on the stack are rows of the table
abbrev pub AreWaiting : InstanceTable → List Waiting → Type 0
AreWaiting table waiting = All (λ w. w.row < length table.rows) waiting

-- the context has the instance table of its program
abbrev pub IsContextOfProgram : RunContext → Type 0
IsContextOfProgram context = IsTableOfProgram context.program.now context.table

-- the table is the valuation of the written state
abbrev pub IsValuationOf : RunContext → RunState → List (Option Value) → Type 0
IsValuationOf context written solution = IsValuationTable context.program.now context.table
    (written_state written) solution
