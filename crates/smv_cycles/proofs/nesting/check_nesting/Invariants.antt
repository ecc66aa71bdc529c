use Rattle.std.proofs.Common.{◌≡◌, drop}
use Rattle.smv_cycles.specs.CyclesBySlot as by_slot
use Rattle.smv_cycles.proofs.nesting.check_nesting.Given as goal

abbrev pub invariant-loop-row : goal.invariant-loop-row
invariant-loop-row l = by_slot.nesting_fault l.program l.table l.aliases l.heights (drop l.row-index l.order) ≡ by_slot.nesting_fault l.program l.table l.aliases l.heights l.order
