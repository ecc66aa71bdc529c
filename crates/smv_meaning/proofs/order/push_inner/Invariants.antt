use Rattle.std.proofs.Common.{◌≡◌, ◌≤◌, ◌-◌, ◌++◌, drop, length}
use Rattle.std.specs.List.{flat_map}
use Rattle.smv_meaning.specs.Instances.{subtree, inner_of, entries, module_at}
use Rattle.smv_meaning.specs.Checking.{instance_at, AreWaiting, waiting_instances}
use Rattle.smv_meaning.proofs.order.push_inner.Given as goal

abbrev pub invariant-inner : goal.invariant-inner
invariant-inner l = record {
  within : l.k ≤ length (entries (module_at l.program (instance_at l.table l.next.row)));
  rows : AreWaiting l.table l.fn.waiting → AreWaiting l.table l.waiting;
  waiting : waiting_instances l.program l.table l.waiting
      ≡ flat_map (subtree (l.next.left - 1) l.program) (flat_map (λ e. inner_of l.program (instance_at l.table l.next.row) e.name e.entity) (drop l.k (entries (module_at l.program (instance_at l.table l.next.row)))))
      ++ waiting_instances l.program l.table l.fn.waiting;
}

abbrev pub decreases-inner : goal.decreases-inner
decreases-inner l = l.k
