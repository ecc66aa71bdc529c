use Rattle.std.proofs.Common.{◌≡◌, ◌++◌, drop, map}
use Rattle.smv_meaning.specs.Mentions as spec
use Rattle.smv_meaning.proofs.mentions.+paths.Given as goal

abbrev pub invariant-push_list_paths-loop-part : goal.invariant-push_list_paths-loop-part
invariant-push_list_paths-loop-part l = spec.pointed l.paths.items ++ spec.all_of (map spec.paths_of (drop l.part-index l.parts))
    ≡ spec.pointed l.fn.paths.items ++ spec.all_of (map spec.paths_of l.parts)

abbrev pub invariant-push_branch_paths-loop-branch : goal.invariant-push_branch_paths-loop-branch
invariant-push_branch_paths-loop-branch l = spec.pointed l.paths.items ++ spec.all_of (map spec.branch_paths (drop l.branch-index l.branches))
    ≡ spec.pointed l.fn.paths.items ++ spec.all_of (map spec.branch_paths l.branches)
