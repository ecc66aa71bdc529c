use Rattle.std.proofs.Common.{◌≡◌, length}
use Rattle.fixpoint.specs.Fixpoints.{filled}
use Rattle.fixpoint.proofs.table.blank.Given as goal

abbrev pub invariant-loop-round : goal.invariant-loop-round
invariant-loop-round g l = (filled l.table ≡ 0) × (length l.table ≡ l._round)
