use Rattle.std.proofs.Common.{◌≡◌, drop}
use Rattle.std.specs.List.{list_all}
use Rattle.smv_kinds.specs.Rules.{actual_keeps_here}
use Rattle.smv_kinds.proofs.instance_rule.InstanceRule.actuals_keep.Given as goal

abbrev pub invariant-loop-actual : goal.invariant-loop-actual
invariant-loop-actual l = list_all (actual_keeps_here l.self) (drop l.actual-index l.actuals) ≡ list_all (actual_keeps_here l.self) l.actuals
