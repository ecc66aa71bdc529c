use Rattle.std.proofs.Common.{◌≡◌, drop}
use Rattle.std.specs.List.{list_any}
use Rattle.smv_meaning.specs.Items.{item_view}
use Rattle.smv_shape.specs.Rules as spec
use Rattle.smv_shape.proofs.rule.any_breaks.Given as goal

abbrev pub invariant-loop-e : goal.invariant-loop-e
invariant-loop-e l = list_any (spec.expr_breaks l.rule (item_view l.item)) (drop l.e-index l.exprs) ≡ list_any (spec.expr_breaks l.rule (item_view l.item)) l.exprs
