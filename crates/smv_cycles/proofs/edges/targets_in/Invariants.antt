use Rattle.std.proofs.Common.{◌≡◌, ◌++◌, drop}
use Rattle.std.specs.List.{flat_map}
use Rattle.std.specs.Option.{option_to_list}
use Rattle.smv_cycles.proofs.edges.targets_in.Given as goal

abbrev pub invariant-loop-edge : goal.invariant-loop-edge
invariant-loop-edge l = l.targets ++ flat_map (λ e. option_to_list e.target) (drop l.edge-index l.edges) ≡ flat_map (λ e. option_to_list e.target) l.edges
