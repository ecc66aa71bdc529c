use Rattle.std.proofs.Common.{◌≡◌, List, ℕ, ◌≤◌, length, drop}
use Rattle.smv_meaning.specs.Entries.{entries_view, entity_among}
use Rattle.smv_meaning.specs.NameSets.{in_set}
use Rattle.smv_shape.specs.Assigned as spec
use Rattle.smv_shape.proofs.assigned.fixed_names.Given as goal

abbrev pub invariant-loop-left : goal.invariant-loop-left
invariant-loop-left l = record {
  within : l.left ≤ length l.entries;
  same : (name : List ℕ) → in_set l.names name ≡ spec.is_fixed_name (entity_among (entries_view (drop l.left l.entries)) name);
}

abbrev pub decreases-loop-left : goal.decreases-loop-left
decreases-loop-left l = l.left
