use Rattle.std.proofs.Common.{◌≡◌, drop, fold}
use Rattle.std.specs.List.{flat_map}
use Rattle.indexmap.specs.IndexSet.{insert_key}
use Rattle.smv_nodes.specs.Own.{saturating_add}
use Rattle.smv_nodes.specs.Count as spec
use Rattle.smv_nodes.specs.CountBySlot as by_slot
use Rattle.smv_nodes.proofs.count.take_exprs.Given as goal

abbrev pub invariant-loop-read_expr : goal.invariant-loop-read_expr
invariant-loop-read_expr l = record {
  whole : saturating_add l.count 0 ≡ l.count;
  count : saturating_add l.count (spec.exprs_nodes (by_slot.of_table l.table) (by_slot.read_expr_views (drop l.read_expr-index l.read_exprs))) ≡ spec.exprs_nodes (by_slot.of_table l.table) (by_slot.read_expr_views l.read_exprs);
  found : fold (insert_key by_slot.same) l.found.keys (flat_map (spec.shared_in (by_slot.of_table l.table)) (by_slot.read_expr_views (drop l.read_expr-index l.read_exprs)))
      ≡ fold (insert_key by_slot.same) l.fn.found.keys (flat_map (spec.shared_in (by_slot.of_table l.table)) (by_slot.read_expr_views l.read_exprs));
}
