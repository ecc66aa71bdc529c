-- Cycles and nesting, by slots.
use Rattle.std.specs.Prelude.{◌≡◌, ◌<◌, ◌+◌, ℕ, codes, Bool, false, nat_eq, nat_lt, if◌then◌else◌, List, [], length, map, Option, Some, None, slice_get}
use Rattle.std.specs.List.{flat_map}
use Rattle.std.specs.Option.{option_to_list}
use Rattle.smv_ast.specs.declared.syntax.Expr.{Expr}
use Rattle.smv_ast.specs.declared.syntax.Span.{Span}
use Rattle.smv_ast.specs.declared.program.Program.{Program}
use Rattle.smv_ast.specs.declared.program.Module.{Module}
use Rattle.smv_ast.specs.declared.fault.Fault.{Fault}
use Rattle.smv_ast.specs.declared.fault.Fault.TheVariants as fault
use Rattle.smv_ast.specs.IgnoringSpans.{no_span}
use Rattle.smv_ast.specs.PrintedExpr.{joined}
use Rattle.smv_meaning.specs.declared.table.InstanceTable.{InstanceTable}
use Rattle.smv_meaning.specs.declared.table.Slot.{Slot}
use Rattle.smv_meaning.specs.declared.table.Row.{Row}
use Rattle.smv_meaning.specs.declared.table.Link.{Link}
use Rattle.smv_meaning.specs.Value.{Name, and_then}
use Rattle.fixpoint.specs.Fixpoints.{entry}
use Rattle.smv_meaning.specs.Instances.{Entry, module_named}
use Rattle.smv_meaning.specs.Slots.{slot_of, name_of_slot}
use Rattle.smv_meaning.specs.ItemIndex.{items_at}
use Rattle.smv_meaning.specs.Runs.{or_else, first_fault}
use Rattle.smv_meaning.specs.InstanceTable.{entries_at, called_of}
use Rattle.smv_meaning.specs.Checking.{instance_at}
use Rattle.smv_meaning.specs.Valuation.{link_of, name_text}
use Rattle.smv_cycles.specs.declared.edges.Edge.{Edge as HeldEdge}
use Rattle.graph.specs.Graphs.{successors_in, on_cycle, cycle_of}
use Rattle.smv_cycles.specs.Reads.{tallest}
use Rattle.smv_cycles.specs.EdgesBySlot.{edges_in}
use Rattle.smv_cycles.specs.Cycles.{is_high, nested_item, declared_at}

-- the link of the row with this number
abbrev pub link_at : InstanceTable → ℕ → Option Link
link_at table k = link_of (slice_get table.rows k)

-- the rows of the table are distinct instances
abbrev pub OneEach : InstanceTable → Type 0
OneEach table = (a b : ℕ) → a < length table.rows → b < length table.rows → instance_at table a
    ≡ instance_at table b → a ≡ b

-- a table of the edges of slots
abbrev pub Graph : Type 0
Graph = List (Option (List HeldEdge))

-- the slots of these edges
abbrev pub targets_found : Option (List HeldEdge) → List ℕ
targets_found None = []
targets_found (Some edges) = flat_map (λ e. option_to_list e.target) edges

-- the successors of each slot
abbrev pub targets : Graph → List (List ℕ)
targets = map targets_found

-- a slot, if it is on a cycle
abbrev pub if_on_cycle : List (List ℕ) → ℕ → Option ℕ
if_on_cycle targets k = if on_cycle targets k then Some k else None

-- the slot of a name of an instance, if it is on a cycle
abbrev pub name_cycle : InstanceTable → List (List ℕ) → ℕ → Name → Option ℕ
name_cycle table targets row name = and_then
    (slot_of table (record { instance = row; name = name })) (if_on_cycle targets)

-- the first slot of an instance that is on a cycle
abbrev pub row_cycle : InstanceTable → List (List ℕ) → ℕ → List Entry → Option ℕ
row_cycle table targets row names = first_fault (λ e. name_cycle table targets row e.name) names

-- the first slot of these instances that is on a cycle
abbrev pub first_cycle : InstanceTable → List (List ℕ) → List ℕ → Option ℕ
first_cycle table targets order = first_fault
    (λ row. row_cycle table targets row (entries_at table.rows row)) order

-- a text that was found, else the empty one
abbrev pub or_empty_text : Option (List ℕ) → List ℕ
or_empty_text None = []
or_empty_text (Some text) = text

-- the printed path of a slot's name; empty where there is no such slot
abbrev pub slot_text : InstanceTable → Option Slot → List ℕ
slot_text table slot = or_empty_text (and_then slot (λ slot. name_text table (name_of_slot slot)))

-- the printed paths of the slots' names
abbrev pub slot_texts : InstanceTable → List ℕ → List (List ℕ)
slot_texts table = map (λ k. slot_text table (slice_get table.slots k))

-- the name of the module of a row
abbrev pub called_row : InstanceTable → ℕ → Name
called_row table row = called_of (link_at table row)

-- the module of a row
abbrev pub module_row : Program → InstanceTable → ℕ → Module
module_row program table row = module_named program (called_row table row)

-- whether the height of an expression of a row passes 1,000, by a table
abbrev pub high_row : InstanceTable → List (Option ℕ) → List (Option ℕ) → ℕ → Expr → Bool
high_row table aliases solution row e = is_high
    (tallest (entry solution) 0 (edges_in table aliases row e))

-- whether an instance declared by this row has a path of more than 1,000 names
abbrev pub deep_found : Option Row → Bool
deep_found None = false
deep_found (Some r) = nat_lt 1000 (r.depth + 1)

-- whether an instance declared by the row with this number has a path of more than 1,000 names
abbrev pub deep_row : InstanceTable → ℕ → Bool
deep_row table row = deep_found (slice_get table.rows row)

-- the first item of an instance that is nested too deep
abbrev pub nested_row : Program → InstanceTable → List (Option ℕ) → List (Option ℕ) → ℕ
    → Option Fault
nested_row program table aliases solution row = first_fault
    (nested_item (high_row table aliases solution row) (deep_row table row))
    (items_at program (instance_at table row))

-- the span of a slot's name
abbrev pub slot_span : Program → InstanceTable → Option Slot → Span
slot_span program table None = no_span
slot_span program table (Some slot) = declared_at (module_row program table slot.row) slot.name.now

-- the fault of a slot that is on a cycle
abbrev pub cycle_fault : Program → InstanceTable → List (List ℕ) → ℕ → Fault
cycle_fault program table targets k =
    fault.CyclicDefine (Some (slot_span program table (slice_get table.slots k))) (joined (codes ",") (slot_texts table (cycle_of (successors_in targets) nat_eq k)))

-- the first fault of cycles, by slots
abbrev pub cyclic_fault : Program → InstanceTable → List (List ℕ) → List ℕ → Option Fault
cyclic_fault program table targets order = and_then (first_cycle table targets order)
    (λ k. Some (cycle_fault program table targets k))

-- the first fault of nesting, by slots
abbrev pub nesting_fault : Program → InstanceTable → List (Option ℕ) → List (Option ℕ) → List ℕ
    → Option Fault
nesting_fault program table aliases solution order = first_fault
    (nested_row program table aliases solution) order

-- the first fault, by slots
abbrev pub graph_fault : Program → InstanceTable → List (Option ℕ) → List (List ℕ)
    → List (Option ℕ) → List ℕ → Option Fault
graph_fault program table aliases targets solution order = or_else
    (cyclic_fault program table targets order) (nesting_fault program table aliases solution order)
