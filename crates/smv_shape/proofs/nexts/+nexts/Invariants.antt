use Rattle.std.proofs.Common.{◌≡◌, drop, map}
use Rattle.std.specs.List.{list_any}
use Rattle.smv_shape.specs.Nexts as spec
use Rattle.smv_shape.proofs.nexts.+nexts.Given as goal

abbrev pub invariant-any_part-loop-part : goal.invariant-any_part-loop-part
invariant-any_part-loop-part l = list_any (λ part. part l.allowed) (map spec.has_stray_next (drop l.part-index l.parts)) ≡ list_any (λ part. part l.allowed) (map spec.has_stray_next l.parts)

abbrev pub invariant-any_branch-loop-branch : goal.invariant-any_branch-loop-branch
invariant-any_branch-loop-branch l = list_any (λ branch. branch l.allowed) (map spec.branch_has_stray (drop l.branch-index l.branches)) ≡ list_any (λ branch. branch l.allowed) (map spec.branch_has_stray l.branches)
