use Rattle.std.proofs.Common.{◌≡◌, drop}
use Rattle.fixpoint.specs.Fixpoints.{entry}
use Rattle.smv_cycles.specs.Reads as spec
use Rattle.smv_cycles.specs.EdgesBySlot as by_slot
use Rattle.smv_cycles.proofs.heights.tallest.Given as goal

abbrev pub invariant-loop-edge : goal.invariant-loop-edge
invariant-loop-edge l = spec.tallest (entry l.solution) l.most (by_slot.edges_view (drop l.edge-index l.edges)) ≡ spec.tallest (entry l.solution) 0 (by_slot.edges_view l.edges)
