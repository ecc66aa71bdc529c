use Rattle.std.proofs.Common.{◌≡◌, drop}
use Rattle.feature_model.specs.Formula.{all_of, exclusions}
use Rattle.feature_model.proofs.conjuncts.with_exclusions.Given as goal

abbrev pub invariant-loop-i : goal.invariant-loop-i
invariant-loop-i l = all_of l.made (exclusions l.names (drop l.i l.children)) ≡ all_of l.fn.formula (exclusions l.names l.children)
