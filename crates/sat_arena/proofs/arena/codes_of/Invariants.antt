use Rattle.std.proofs.Common.{◌<◌, ◌≤◌, ◌^◌, ℕ, get_or}
use Rattle.sat_arena.proofs.arena.codes_of.Given as goal

abbrev pub invariant-loop-lit : goal.invariant-loop-lit
invariant-loop-lit l = record {
  small : l.codes ≤ 2 ^ 31;
  above : (k : ℕ) (d : ℕ) → k < l.lit-index → get_or l.lits k d < l.codes;
}
