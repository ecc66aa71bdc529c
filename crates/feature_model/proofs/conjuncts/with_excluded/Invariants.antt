use Rattle.std.proofs.Common.{◌≡◌, drop}
use Rattle.feature_model.specs.Formula.{all_of, excluded}
use Rattle.feature_model.proofs.conjuncts.with_excluded.Given as goal

abbrev pub invariant-loop-other : goal.invariant-loop-other
invariant-loop-other l = all_of l.made (excluded l.names l.child (drop l.other-index l.others)) ≡ all_of l.fn.formula (excluded l.names l.child l.others)
