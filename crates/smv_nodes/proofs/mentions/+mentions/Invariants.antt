use Rattle.std.proofs.Common.{◌≡◌, ◌++◌, map, pred, length, drop}
use Rattle.smv_nodes.specs.Mentions as spec
use Rattle.smv_nodes.proofs.mentions.+mentions.Given as goal

abbrev pub invariant-push_parts-loop-part : goal.invariant-push_parts-loop-part
invariant-push_parts-loop-part l = spec.mention_views l.mentions.items ++ spec.parts_read l.after_step (map spec.reads_of (drop l.part-index l.parts))
    ≡ spec.mention_views l.fn.mentions.items ++ spec.parts_read l.after_step (map spec.reads_of l.parts)

abbrev pub invariant-push_branches-loop-branch : goal.invariant-push_branches-loop-branch
invariant-push_branches-loop-branch l = spec.mention_views l.mentions.items ++ spec.branches_read l.after_step l.conds (map spec.branch_reads (drop l.branch-index l.branches))
    ≡ spec.mention_views l.fn.mentions.items ++ spec.branches_read l.after_step (pred (length (map spec.branch_reads l.branches))) (map spec.branch_reads l.branches)
