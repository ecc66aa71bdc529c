use Rattle.std.proofs.Common.{◌≡◌, drop}
use Rattle.feature_model.specs.Formula.{all_of, with_parent}
use Rattle.feature_model.proofs.conjuncts.with_parent.Given as goal

abbrev pub invariant-loop-child : goal.invariant-loop-child
invariant-loop-child l = all_of l.made (with_parent l.names l.op l.parent (drop l.child-index l.children)) ≡ all_of l.fn.formula (with_parent l.names l.op l.parent l.children)
