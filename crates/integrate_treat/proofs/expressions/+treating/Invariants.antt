use Rattle.std.proofs.Common.{◌≡◌, map, take}
use Rattle.integrate_treat.specs.TreatedExpr as spec
use Rattle.integrate_treat.proofs.expressions.+treating.Given as goal

abbrev pub invariant-treat_parts-loop-part : goal.invariant-treat_parts-loop-part
invariant-treat_parts-loop-part l = l.treated ≡ map (spec.treated l.t) (take l.part-index l.parts)

abbrev pub invariant-treat_branches-loop-branch : goal.invariant-treat_branches-loop-branch
invariant-treat_branches-loop-branch l = l.treated ≡ map (spec.treated_branch l.t) (take l.branch-index l.branches)
