use Rattle.std.proofs.Common.{◌≡◌, ℕ, ◌<◌, length, true, false}
use Rattle.fixpoint.specs.Fixpoints.{filled, IsSoundTable, IsClosed}
use Rattle.fixpoint.proofs.table.sweep.Given as goal

abbrev pub invariant-loop-k : goal.invariant-loop-k
invariant-loop-k g l = record {
  sound : IsSoundTable (g.S.Step.step l.steps) l.table;
  same : length l.table ≡ length l.fn.table;
  kept : l.gained ≡ false → l.table ≡ l.fn.table;
  rose : l.gained ≡ true → filled l.fn.table < filled l.table;
  settled : l.gained ≡ false → (j : ℕ) → j < l.k → IsClosed (g.S.Step.step l.steps) l.table j;
}
