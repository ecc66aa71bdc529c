use Rattle.std.proofs.Common.{◌≡◌, ◌≤◌, length}
use Rattle.smv_meaning.specs.Indices.{number_held}
use Rattle.smv_meaning.specs.Value.{Name}
use Rattle.smv_meaning.proofs.NamesLemmas.{first_from}
use Rattle.smv_meaning.proofs.names.positions_of.Given as goal

abbrev pub invariant-loop-left : goal.invariant-loop-left
invariant-loop-left l = record {
  within : l.left ≤ length l.entries;
  held : (name : Name) → number_held l.positions name ≡ first_from l.entries l.left name;
}

abbrev pub decreases-loop-left : goal.decreases-loop-left
decreases-loop-left l = l.left
