use Rattle.sat_arena.specs.Trails.{true_in}
use Rattle.sat_search.specs.Orders.{AllAssigned}
use Rattle.sat_search.proofs.order.first_open.Given as goal

abbrev pub invariant-loop-before : goal.invariant-loop-before
invariant-loop-before l = AllAssigned l.before (true_in l.trail.entries)
