use Rattle.std.proofs.Common.{◌≡◌, drop}
use Rattle.std.specs.List.{flat_map}
use Rattle.feature_model.specs.Formula.{all_of, conjuncts, formula_of}
use Rattle.feature_model.proofs.conjuncts.conjunction.Given as goal

abbrev pub invariant-loop-line : goal.invariant-loop-line
invariant-loop-line l = all_of l.made (flat_map (conjuncts l.model.names) (drop l.line-index l.model.lines)) ≡ formula_of l.model
