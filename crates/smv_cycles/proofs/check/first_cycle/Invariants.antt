use Rattle.std.proofs.Common.{◌≡◌, drop}
use Rattle.smv_cycles.specs.CyclesBySlot as by_slot
use Rattle.smv_cycles.proofs.check.first_cycle.Given as goal

abbrev pub invariant-loop-row : goal.invariant-loop-row
invariant-loop-row l = by_slot.first_cycle l.table l.search.graph.now (drop l.row-index l.order) ≡ by_slot.first_cycle l.table l.search.graph.now l.order
