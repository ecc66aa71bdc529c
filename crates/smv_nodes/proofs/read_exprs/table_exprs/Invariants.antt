use Rattle.std.proofs.Common.{◌≡◌, ◌++◌, drop}
use Rattle.smv_nodes.specs.CountBySlot as by_slot
use Rattle.smv_nodes.proofs.read_exprs.table_exprs.Given as goal

abbrev pub invariant-loop-row : goal.invariant-loop-row
invariant-loop-row l = by_slot.read_expr_views l.read_exprs.items ++ by_slot.table_exprs l.program l.table (drop l.row-index l.order) ≡ by_slot.table_exprs l.program l.table l.order
