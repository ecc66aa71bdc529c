use Rattle.std.proofs.Common.{◌+◌, ◌++◌, ◌∷◌, [], ◌∙◌, ap}
use Rattle.feature_model.proofs.NumberingLemmas.{range_more}
use Rattle.feature_model.proofs.numbering.numbers_from.Goals as goal

pub loop-i-preserved : goal.loop-i-preserved
loop-i-preserved c = c.in_ok-push.ensures.ok ∙ ap (λ ns. ns ++ (c.args.first + c.loop-i.i) ∷ []) c.loop-i.invariant ∙ range_more c.args.first c.loop-i.i
