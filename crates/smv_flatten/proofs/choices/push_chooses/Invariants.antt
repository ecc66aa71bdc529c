use Rattle.std.proofs.Common.{◌≡◌, ◌≤◌, take, length}
use Rattle.smv_flatten.specs.Making.{chosen}
use Rattle.smv_flatten.proofs.choices.push_chooses.Given as goal

abbrev pub invariant-loop-left : goal.invariant-loop-left
invariant-loop-left l = (l.left ≤ length l.branches) × (chosen (take l.left l.branches) (l.store, l.node) ≡ chosen l.branches (l.initial.store, l.initial.node))

abbrev pub decreases-loop-left : goal.decreases-loop-left
decreases-loop-left l = l.left
