use Rattle.std.proofs.Common.{◌≡◌, ◌++◌, map, drop}
use Rattle.smv_flatten.specs.Variables as spec
use Rattle.smv_flatten.proofs.variables.flat_variables.Given as goal

abbrev pub invariant-loop-variable : goal.invariant-loop-variable
invariant-loop-variable l = l.vars ++ map (spec.flat_variable l.owned l.table l.symbols) (map spec.variable_view (drop l.variable-index l.variables)) ≡ map (spec.flat_variable l.owned l.table l.symbols) (map spec.variable_view l.variables)
