use Rattle.std.proofs.Common.{◌≡◌, ◌++◌, map, drop}
use Rattle.smv_flatten.specs.Variables as spec
use Rattle.smv_flatten.proofs.variables.symbolic_flags.Given as goal

abbrev pub invariant-loop-variable : goal.invariant-loop-variable
invariant-loop-variable l = l.flags ++ map spec.has_symbols (map spec.variable_view (drop l.variable-index l.variables)) ≡ map spec.has_symbols (map spec.variable_view l.variables)
