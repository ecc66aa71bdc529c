use Rattle.std.proofs.Common.{◌≡◌, cond, map, pred, length, drop}
use Rattle.smv_nodes.specs.Own as spec
use Rattle.smv_nodes.proofs.own.+own.Given as goal

abbrev pub invariant-parts_nodes-loop-part : goal.invariant-parts_nodes-loop-part
invariant-parts_nodes-loop-part l = record {
  whole : spec.both l.found spec.none ≡ l.found;
  same : spec.both l.found (spec.parts_after (cond l.first 0 1) (map spec.nodes_of (drop l.part-index l.parts))) ≡ spec.parts_after 0 (map spec.nodes_of l.parts);
}

abbrev pub invariant-branches_nodes-loop-branch : goal.invariant-branches_nodes-loop-branch
invariant-branches_nodes-loop-branch l = record {
  whole : spec.both l.found spec.none ≡ l.found;
  same : spec.both l.found (spec.branches_nodes l.conds (map spec.branch_nodes (drop l.branch-index l.branches)))
      ≡ spec.branches_nodes (pred (length (map spec.branch_nodes l.branches))) (map spec.branch_nodes l.branches);
}
