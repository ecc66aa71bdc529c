use Rattle.std.proofs.Common.{◌≡◌, ◌++◌, drop, map}
use Rattle.smv_cycles.specs.Nodes as spec
use Rattle.smv_cycles.proofs.nodes.+nodes.Given as goal

abbrev pub invariant-push_each-loop-part : goal.invariant-push_each-loop-part
invariant-push_each-loop-part l = spec.nodes_view l.nodes ++ spec.each_of (map spec.nodes_below (drop l.part-index l.parts)) l.above
    ≡ spec.nodes_view l.fn.nodes ++ spec.each_of (map spec.nodes_below l.parts) l.above

abbrev pub invariant-push_branches-loop-branch : goal.invariant-push_branches-loop-branch
invariant-push_branches-loop-branch l = spec.nodes_view l.nodes ++ spec.each_of (map spec.branch_nodes (drop l.branch-index l.branches)) l.above
    ≡ spec.nodes_view l.fn.nodes ++ spec.each_of (map spec.branch_nodes l.branches) l.above
