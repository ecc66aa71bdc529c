use Rattle.std.proofs.Common.{◌<◌, ◌≤◌, ◌+◌, ℕ, get_or}
use Rattle.proof_check.proofs.marks.room_for.Given as goal

abbrev pub invariant-loop-lit : goal.invariant-loop-lit
invariant-loop-lit l = record {
  least : l.least ≤ l.room;
  covered : (k : ℕ) → k < l.lit-index → get_or l.lits k 0 + 1 < l.room;
}
