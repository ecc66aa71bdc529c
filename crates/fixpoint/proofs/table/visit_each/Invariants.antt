use Rattle.std.proofs.Common.{◌≡◌, ◌≤◌, length}
use Rattle.fixpoint.specs.Fixpoints.{IsSoundTable, filled}
use Rattle.fixpoint.proofs.table.visit_each.Given as goal

abbrev pub invariant-loop-k : goal.invariant-loop-k
invariant-loop-k g l = record {
  sound : IsSoundTable (g.S.Step.step l.steps) l.table;
  same : length l.table ≡ length l.fn.table;
  kept : filled l.fn.table ≤ filled l.table;
}
