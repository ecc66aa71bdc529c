use Rattle.std.proofs.Common.{◌≡◌, drop, fold}
use Rattle.indexmap.specs.IndexSet.{insert_key}
use Rattle.smv_nodes.specs.Own.{saturating_add}
use Rattle.smv_nodes.specs.Mentions as mentions_spec
use Rattle.smv_nodes.specs.Count as spec
use Rattle.smv_nodes.specs.CountBySlot as by_slot
use Rattle.smv_nodes.proofs.count.take_names.Given as goal

abbrev pub invariant-loop-mention : goal.invariant-loop-mention
invariant-loop-mention l = record {
  whole : saturating_add l.count 0 ≡ l.count;
  count : saturating_add l.count (spec.names_nodes (by_slot.of_table l.table) l.row (mentions_spec.mention_views (drop l.mention-index l.mentions))) ≡ saturating_add l.before (spec.names_nodes (by_slot.of_table l.table) l.row (mentions_spec.mention_views l.mentions));
  found : fold (insert_key by_slot.same) l.found.keys (spec.shared_among (by_slot.of_table l.table) l.row (mentions_spec.mention_views (drop l.mention-index l.mentions)))
      ≡ fold (insert_key by_slot.same) l.fn.found.keys (spec.shared_among (by_slot.of_table l.table) l.row (mentions_spec.mention_views l.mentions));
}
