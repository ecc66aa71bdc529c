-- The dependencies of names, by slots.
use Rattle.std.specs.Prelude.{ℕ, Bool, true, false, not, if◌then◌else◌, List, map, Option, Some, None, is_some, slice_get}
use Rattle.std.specs.Option.{option_map}
use Rattle.smv_ast.specs.declared.syntax.Expr.{Expr}
use Rattle.smv_meaning.specs.declared.table.InstanceTable.{InstanceTable}
use Rattle.smv_meaning.specs.declared.table.Slot.{Slot}
use Rattle.smv_meaning.specs.declared.table.Binding.{Binding as HeldBinding}
use Rattle.smv_meaning.specs.declared.table.Binding.TheVariants as held
use Rattle.smv_meaning.specs.Value.{Name, and_then}
use Rattle.fixpoint.specs.Fixpoints.{entry}
use Rattle.smv_meaning.specs.Slots.{resolve_slot}
use Rattle.smv_cycles.specs.declared.edges.Edge.{Edge as HeldEdge}
use Rattle.smv_cycles.specs.Nodes.{Node, nodes_of}
use Rattle.smv_cycles.specs.Reads.{Edge}

-- the edge that a Rust value represents
abbrev pub edge_view : HeldEdge → Edge ℕ
edge_view e = record { above = e.above; target = e.target }

-- the edges that Rust values represent
abbrev pub edges_view : List HeldEdge → List (Edge ℕ)
edges_view = map edge_view

-- the edges that a table has for a slot
abbrev pub edges_at : List (Option (List HeldEdge)) → ℕ → Option (List (Edge ℕ))
edges_at graph k = and_then (slice_get graph k) (option_map edges_view)

-- whether a slot is bound to an expression: a definition is, and a formal that is no alias of an
-- instance
abbrev pub is_read : List (Option ℕ) → ℕ → HeldBinding → Bool
is_read aliases k (held.Define right) = true
is_read aliases k (held.Formal outer actual) = not (is_some (entry aliases k))
is_read aliases k m = false

module _ (table : InstanceTable) (aliases : List (Option ℕ)) where
  -- the slot, if it is bound to an expression
  abbrev pub read_slot : ℕ → Option ℕ
  read_slot k = and_then (slice_get table.slots k)
      (λ slot. if is_read aliases k slot.binding then Some k else None)

  -- the slot that a path of an instance reads, if it reads one
  abbrev pub slot_read : ℕ → Option (List Name) → Option ℕ
  slot_read row path = and_then path (λ names. and_then (resolve_slot table row names) read_slot)

  -- the edge of a node of an expression in an instance
  abbrev pub edge_in : ℕ → Node → Edge ℕ
  edge_in row n = record { above = n.above; target = slot_read row n.path }

  -- the edges of an expression in an instance
  abbrev pub edges_in : ℕ → Expr → List (Edge ℕ)
  edges_in row e = map (edge_in row) (nodes_of e)

  -- the edges of a name of an instance by its binding, if it has one
  abbrev pub edges_by : ℕ → HeldBinding → Option (List (Edge ℕ))
  edges_by row (held.Define right) = Some (edges_in row right.now)
  edges_by row (held.Formal outer actual) = Some (edges_in outer actual.now)
  edges_by row m = None

  -- the edges of a slot
  abbrev pub slot_edges : Slot → Option (List (Edge ℕ))
  slot_edges slot = edges_by slot.row slot.binding
