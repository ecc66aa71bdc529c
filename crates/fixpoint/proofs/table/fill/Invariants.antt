use Rattle.std.proofs.Common.{◌≡◌, ◌-◌, length}
use Rattle.fixpoint.specs.Fixpoints.{filled, IsSoundTable}
use Rattle.fixpoint.proofs.table.fill.Given as goal

abbrev pub invariant-sweeping : goal.invariant-sweeping
invariant-sweeping g l = record {
  sound : IsSoundTable (g.S.Step.step l.steps) l.table;
  same : length l.table ≡ l.count;
}

abbrev pub decreases-sweeping : goal.decreases-sweeping
decreases-sweeping g l = l.count - filled l.table
