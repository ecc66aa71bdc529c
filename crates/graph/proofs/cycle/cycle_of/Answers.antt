use Rattle.graph.proofs.WayLemmas.{way_is}
use Rattle.graph.proofs.cycle.cycle_of.Goals as goal

pub returns-then-is_way : goal.returns-then-is_way
returns-then-is_way c = way_is c.args.graph.now c.args.goal c.in_ok-way.way.vertices c.in_ok-way.way.levels (c.is_way.ensures c.if-is_way.true)
