use Rattle.std.proofs.Common.{◌≡◌, true, below_more, arith}
use Rattle.feature_model.proofs.ValidityLemmas.{alone_at}
use Rattle.feature_model.proofs.validity.at_most_one.Goals as goal
use Rattle.feature_model.proofs.validity.at_most_one.Goals.{else-has-via-then-has+else-has_any_from, else-has-via-else-has}

pub loop-i-preserved : goal.loop-i-preserved
loop-i-preserved c = below_more _ _ c.loop-i.invariant (alone_at c.args.product c.args.children.now c.loop-i.i (omega arith)
    (elim c.else-has.branch [ else-has-via-then-has+else-has_any_from w ↦ (λ _ found. let yes : w.has_any_from.result ≡ true = w.has_any_from.ensures.1 found in cc) | else-has-via-else-has w ↦ (λ there _. cc) ]))
