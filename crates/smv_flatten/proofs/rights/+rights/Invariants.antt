use Rattle.std.proofs.Common.{◌≡◌, ◌*◌, ◌+◌, length, drop}
use Rattle.smv_flatten.specs.Making.{chosen, cases_made, value_made, right_made}
use Rattle.smv_flatten.proofs.rights.+rights.Given as goal

abbrev pub decreases-make_right : goal.decreases-make_right
decreases-make_right l = 8 * l.depth + 3

abbrev pub decreases-make_right_layer : goal.decreases-make_right_layer
decreases-make_right_layer l = 8 * l.whole + 2

abbrev pub decreases-make_right_cases : goal.decreases-make_right_cases
decreases-make_right_cases l = 8 * l.depth + 4

abbrev pub invariant-make_right_cases-loop-branch : goal.invariant-make_right_cases-loop-branch
invariant-make_right_cases-loop-branch l = record {
  left : l.left + l.branch-index ≡ length l.branches;
  same : chosen l.made.items (cases_made (value_made l.names l.depth) (right_made l.names l.depth l.x) l.row l.after_step (drop l.branch-index l.branches) l.store)
      ≡ cases_made (value_made l.names l.depth) (right_made l.names l.depth l.x) l.row l.after_step l.branches l.initial.store;
}
