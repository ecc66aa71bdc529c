use Rattle.std.proofs.Common.{◌≡◌}
use Rattle.sat_search.proofs.order.Order.bump.Given as goal

abbrev pub invariant-loop-lit : goal.invariant-loop-lit
invariant-loop-lit l = l.self ≡ l.fn.self
