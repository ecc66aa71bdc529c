use Rattle.std.proofs.Common.{◌≡◌, ◌++◌, map, drop}
use Rattle.smv_flatten.specs.Invariants as spec
use Rattle.smv_flatten.proofs.invariants.specs_of.Given as goal

abbrev pub invariant-loop-row : goal.invariant-loop-row
invariant-loop-row l = map spec.spec_view l.found.items ++ spec.specs_at l.program l.owned l.table (drop l.row-index l.order) ≡ spec.specs_at l.program l.owned l.table l.order
