use Rattle.std.proofs.Common.{◌≡◌, ◌++◌, map, drop}
use Rattle.smv_cycles.specs.EdgesBySlot as spec
use Rattle.smv_cycles.specs.Nodes as trees
use Rattle.smv_cycles.proofs.edges.edges_of_nodes.Given as goal

abbrev pub invariant-loop-node : goal.invariant-loop-node
invariant-loop-node l = spec.edges_view l.edges ++ map (spec.edge_in l.table l.aliases l.row) (trees.nodes_view (drop l.node-index l.nodes)) ≡ map (spec.edge_in l.table l.aliases l.row) (trees.nodes_view l.nodes)
