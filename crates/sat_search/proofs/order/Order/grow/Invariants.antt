use Rattle.std.proofs.Common.{◌≡◌}
use Rattle.sat_search.proofs.order.Order.grow.Given as goal

abbrev pub invariant-loop-row : goal.invariant-loop-row
invariant-loop-row l = l.self ≡ l.vars
