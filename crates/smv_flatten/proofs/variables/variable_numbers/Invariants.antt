use Rattle.std.proofs.Common.{◌≡◌, None, map, drop}
use Rattle.std.specs.Prelude.{replicate}
use Rattle.smv_flatten.specs.Variables as spec
use Rattle.smv_flatten.proofs.variables.variable_numbers.Given as goal

abbrev pub invariant-blank : goal.invariant-blank
invariant-blank l = l.numbers ≡ replicate l.place None

abbrev pub invariant-loop-variable : goal.invariant-loop-variable
invariant-loop-variable l = spec.numbered_from l.number (map spec.variable_view (drop l.variable-index l.variables)) l.numbers ≡ spec.variable_numbers l.count (map spec.variable_view l.variables)
