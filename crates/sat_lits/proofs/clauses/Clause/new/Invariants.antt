use Rattle.std.proofs.Common.{◌≡◌, ◌<◌, ℕ, ◌+◌, get_or}
use Rattle.sat_lits.specs.Literals.{variable_of}
use Rattle.sat_lits.proofs.clauses.Clause.new.Given as goal

abbrev pub invariant-loop-lit : goal.invariant-loop-lit
invariant-loop-lit l = record {
  rising : (k : ℕ) → k + 1 < l.lit-index → variable_of (get_or l.lit-items k 0) < variable_of (get_or l.lit-items (k + 1) 0);
  start : l.lit-index ≡ 0 → l.previous ≡ 0;
  last : (k : ℕ) → k + 1 ≡ l.lit-index → l.previous ≡ variable_of (get_or l.lit-items k 0);
}
