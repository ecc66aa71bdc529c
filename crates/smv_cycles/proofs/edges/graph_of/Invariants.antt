use Rattle.std.proofs.Common.{◌≡◌, ◌++◌, map, drop}
use Rattle.std.specs.Option.{option_map}
use Rattle.smv_cycles.specs.EdgesBySlot as spec
use Rattle.smv_cycles.proofs.edges.graph_of.Given as goal

abbrev pub invariant-loop-slot : goal.invariant-loop-slot
invariant-loop-slot l = map (option_map spec.edges_view) l.graph ++ map (spec.slot_edges l.table l.aliases) (drop l.slot-index l.table.slots) ≡ map (spec.slot_edges l.table l.aliases) l.table.slots
