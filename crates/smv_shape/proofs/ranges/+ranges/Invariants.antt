use Rattle.std.proofs.Common.{◌≡◌, drop, map}
use Rattle.std.specs.List.{list_any}
use Rattle.smv_shape.specs.Ranges as spec
use Rattle.smv_shape.proofs.ranges.+ranges.Given as goal

abbrev pub invariant-any_part-loop-part : goal.invariant-any_part-loop-part
invariant-any_part-loop-part l = list_any (λ part. part) (map spec.has_empty (drop l.part-index l.parts)) ≡ list_any (λ part. part) (map spec.has_empty l.parts)

abbrev pub invariant-any_branch-loop-branch : goal.invariant-any_branch-loop-branch
invariant-any_branch-loop-branch l = list_any (λ branch. branch) (map spec.branch_has_empty (drop l.branch-index l.branches)) ≡ list_any (λ branch. branch) (map spec.branch_has_empty l.branches)
