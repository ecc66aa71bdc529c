use Rattle.std.proofs.Common.{◌≡◌, ◌++◌, map, length}
use Rattle.smv_meaning.specs.Instances.{instances}
use Rattle.smv_meaning.specs.Checking.{instance_at, AreRows, AreWaiting, waiting_instances}
use Rattle.smv_meaning.proofs.order.order_of.Given as goal

abbrev pub invariant-rounds : goal.invariant-rounds
invariant-rounds l = record {
  rows : AreRows l.table l.order;
  waiting : AreWaiting l.table l.waiting;
  order : map (instance_at l.table) l.order ++ waiting_instances l.program l.table l.waiting ≡ instances l.program;
}

abbrev pub decreases-rounds : goal.decreases-rounds
decreases-rounds l = length (waiting_instances l.program l.table l.waiting)
