use Rattle.std.proofs.Common.{◌≡◌, drop}
use Rattle.smv_names.specs.Recursion.{recursive_from}
use Rattle.smv_names.proofs.recursion.check_graph.Given as goal

abbrev pub invariant-loop-owner : goal.invariant-loop-owner
invariant-loop-owner l = record {
  count : l.k ≡ l.owner-index;
  left : recursive_from l.graph l.k (drop l.owner-index l.modules) ≡ recursive_from l.graph 0 l.modules;
}
