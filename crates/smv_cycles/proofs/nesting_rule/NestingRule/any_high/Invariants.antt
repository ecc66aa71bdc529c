use Rattle.std.proofs.Common.{◌≡◌, drop}
use Rattle.std.specs.List.{list_any}
use Rattle.smv_cycles.specs.NestingRules.{high_here}
use Rattle.smv_cycles.proofs.nesting_rule.NestingRule.any_high.Given as goal

abbrev pub invariant-loop-e : goal.invariant-loop-e
invariant-loop-e l = list_any (high_here l.self) (drop l.e-index l.expressions) ≡ list_any (high_here l.self) l.expressions
