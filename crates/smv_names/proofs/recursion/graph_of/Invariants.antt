use Rattle.std.proofs.Common.{◌≡◌, ◌++◌, drop, map}
use Rattle.smv_names.specs.Recursion.{called_within, graph}
use Rattle.smv_names.proofs.recursion.graph_of.Given as goal

abbrev pub invariant-loop-owner : goal.invariant-loop-owner
invariant-loop-owner l = l.graph ++ map (called_within l.modules.program.now) (drop l.owner-index l.modules.program.now.modules) ≡ graph l.modules.program.now
