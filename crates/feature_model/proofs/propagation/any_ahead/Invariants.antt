use Rattle.std.proofs.Common.{take}
use Rattle.std.specs.List.{list_any}
use Rattle.feature_model.specs.Products.{has}
use Rattle.feature_model.specs.Lookaheads.{IsLookahead}
use Rattle.feature_model.proofs.propagation.any_ahead.Given as goal

abbrev pub invariant-loop-child : goal.invariant-loop-child
invariant-loop-child l = IsLookahead l.partial (λ p. list_any (has p.bits) (take l.child-index l.children)) l.rule
