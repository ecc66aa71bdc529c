-- The count of nodes, over the rows and slots of the instance table.
use Rattle.std.specs.Prelude.{ℕ, ◌&&◌, Bool, nat_eq, List, map, slice_get}
use mathlib.Core.Bool.{beq}
use Rattle.smv_ast.specs.declared.program.Program.{Program}
use Rattle.smv_meaning.specs.declared.table.InstanceTable.{InstanceTable}
use Rattle.smv_meaning.specs.Value.{and_then}
use Rattle.smv_meaning.specs.InstanceTable.{binding_view}
use Rattle.smv_meaning.specs.Slots.{resolve_slot}
use Rattle.smv_meaning.specs.Checking.{instance_at}
use Rattle.smv_meaning.specs.ItemIndex.{items_at}
use Rattle.smv_nodes.specs.declared.read_exprs.ReadExpr.{ReadExpr as HeldReadExpr}
use Rattle.smv_nodes.specs.Count.{Lookup, content, ReadExpr, Shared, instance_exprs}

-- the resolution of names by the slots of a table
abbrev pub of_table : InstanceTable → Lookup ℕ ℕ
of_table table = record {
  resolve = resolve_slot table;
  content_of = λ k. and_then (slice_get table.slots k)
      (λ slot. content slot.row (binding_view slot.binding));
}

-- the expressions that the items of the instances of these numbers read
abbrev pub table_exprs : Program → InstanceTable → List ℕ → List (ReadExpr ℕ)
table_exprs program table = instance_exprs (λ row. items_at program (instance_at table row))

-- whether two shared nodes are equal
abbrev pub same : Shared ℕ → Shared ℕ → Bool
same a b = nat_eq a.0 b.0 && beq a.1 b.1

-- the expression that a Rust value represents
abbrev pub read_expr_view : HeldReadExpr → ReadExpr ℕ
read_expr_view p = record {
  instance = p.row;
  right = p.right.now;
  assigned = p.assigned;
  after_step = p.after_step;
}

-- the expressions that Rust values represent
abbrev pub read_expr_views : List HeldReadExpr → List (ReadExpr ℕ)
read_expr_views = map read_expr_view
