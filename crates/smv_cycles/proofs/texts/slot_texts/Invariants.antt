use Rattle.std.proofs.Common.{◌≡◌, ◌++◌, drop}
use Rattle.smv_cycles.specs.CyclesBySlot as spec
use Rattle.smv_cycles.proofs.texts.slot_texts.Given as goal

abbrev pub invariant-loop-k : goal.invariant-loop-k
invariant-loop-k l = l.members ++ spec.slot_texts l.table (drop l.k-index l.cycle) ≡ spec.slot_texts l.table l.cycle
