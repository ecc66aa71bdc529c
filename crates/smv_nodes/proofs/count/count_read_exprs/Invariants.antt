use Rattle.smv_nodes.specs.CountBySlot as by_slot
use Rattle.smv_nodes.proofs.CountLemmas.{Progress}
use Rattle.smv_nodes.proofs.count.count_read_exprs.Given as goal

abbrev pub invariant-loop-k : goal.invariant-loop-k
invariant-loop-k l = Progress (by_slot.of_table l.table) (by_slot.read_expr_views l.read_exprs) l.found.keys l.k l.count
