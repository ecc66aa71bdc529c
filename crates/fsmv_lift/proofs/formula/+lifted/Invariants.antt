use Rattle.std.proofs.Common.{◌≡◌, map, take}
use Rattle.fsmv_lift.specs.Lift as spec
use Rattle.fsmv_lift.proofs.formula.+lifted.Given as goal

abbrev pub invariant-lifted_parts-loop-part : goal.invariant-lifted_parts-loop-part
invariant-lifted_parts-loop-part l = l.lifted ≡ map spec.lifted_constraint (take l.part-index l.parts)

abbrev pub invariant-lifted_branches-loop-branch : goal.invariant-lifted_branches-loop-branch
invariant-lifted_branches-loop-branch l = l.lifted ≡ map spec.lifted_branch (take l.branch-index l.branches)
