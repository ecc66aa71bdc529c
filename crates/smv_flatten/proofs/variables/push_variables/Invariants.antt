use Rattle.std.proofs.Common.{◌≡◌, ◌++◌, map, drop}
use Rattle.smv_flatten.specs.Variables as spec
use Rattle.smv_flatten.proofs.variables.push_variables.Given as goal

abbrev pub invariant-loop-row : goal.invariant-loop-row
invariant-loop-row l = map spec.variable_view l.found.items ++ spec.variables_at l.table l.features (drop l.row-index l.order) ≡ map spec.variable_view l.fn.found.items ++ spec.variables_at l.table l.features l.order
