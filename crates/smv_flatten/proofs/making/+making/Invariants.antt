use Rattle.std.proofs.Common.{◌≡◌, ◌*◌, ◌+◌, length, drop}
use Rattle.smv_flatten.specs.Making.{chosen, cases_made, value_made, more_parts_made}
use Rattle.smv_flatten.proofs.making.+making.Given as goal

abbrev pub decreases-make_value : goal.decreases-make_value
decreases-make_value l = 8 * l.depth + 0

abbrev pub decreases-make_test : goal.decreases-make_test
decreases-make_test l = 8 * l.depth + 1

abbrev pub decreases-make_shared : goal.decreases-make_shared
decreases-make_shared l = 8 * l.depth + 1

abbrev pub decreases-make_cases : goal.decreases-make_cases
decreases-make_cases l = 8 * l.depth + 1

abbrev pub decreases-make_slot : goal.decreases-make_slot
decreases-make_slot l = 8 * l.depth + 2

abbrev pub decreases-make_more_parts : goal.decreases-make_more_parts
decreases-make_more_parts l = 8 * l.depth + 2

abbrev pub decreases-make_path : goal.decreases-make_path
decreases-make_path l = 8 * l.depth + 3

abbrev pub decreases-make_parts : goal.decreases-make_parts
decreases-make_parts l = 8 * l.depth + 3

abbrev pub decreases-make_choice : goal.decreases-make_choice
decreases-make_choice l = 8 * l.depth + 4

abbrev pub decreases-make_layer : goal.decreases-make_layer
decreases-make_layer l = 8 * l.depth + 5

abbrev pub invariant-make_cases-loop-branch : goal.invariant-make_cases-loop-branch
invariant-make_cases-loop-branch l = record {
  left : l.left + l.branch-index ≡ length l.branches;
  same : chosen l.made.items (cases_made (value_made l.names l.depth) (value_made l.names l.depth) l.row l.after_step (drop l.branch-index l.branches) l.store)
      ≡ cases_made (value_made l.names l.depth) (value_made l.names l.depth) l.row l.after_step l.branches l.initial.store;
}

abbrev pub invariant-make_more_parts-loop-part : goal.invariant-make_more_parts-loop-part
invariant-make_more_parts-loop-part l =
    more_parts_made (value_made l.names l.depth) l.x l.row l.after_step l.found (drop l.part-index l.parts) l.store ≡ more_parts_made (value_made l.names l.depth) l.x l.row l.after_step l.initial.found l.parts l.initial.store
