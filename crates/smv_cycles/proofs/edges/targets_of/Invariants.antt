use Rattle.std.proofs.Common.{◌≡◌, ◌++◌, drop}
use Rattle.smv_cycles.specs.CyclesBySlot as cycles
use Rattle.smv_cycles.proofs.edges.targets_of.Given as goal

abbrev pub invariant-loop-edges : goal.invariant-loop-edges
invariant-loop-edges l = l.targets ++ cycles.targets (drop l.edges-index l.graph) ≡ cycles.targets l.graph
