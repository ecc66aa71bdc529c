use Rattle.std.proofs.Common.{◌≡◌, drop}
use Rattle.smv_cycles.specs.CyclesBySlot as by_slot
use Rattle.smv_meaning.specs.Entries.{entries_view}
use Rattle.smv_cycles.proofs.check.names_cycle.Given as goal

abbrev pub invariant-loop-entry : goal.invariant-loop-entry
invariant-loop-entry l = by_slot.row_cycle l.table l.search.graph.now l.row (entries_view (drop l.entry-index l.entries)) ≡ by_slot.row_cycle l.table l.search.graph.now l.row (entries_view l.entries)
