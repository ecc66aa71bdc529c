use Rattle.std.proofs.Common.{◌≡◌, ◌≤◌, ◌+◌, ℕ, true, length}
use Rattle.sat_lits.specs.Literals.{literal}
use Rattle.sat_arena.specs.Trails.{true_in, marked}
use Rattle.sat_search.proofs.found.values_of.Given as goal

abbrev pub invariant-loop-before : goal.invariant-loop-before
invariant-loop-before l = record {
  long : length l.values.items ≡ l.vars + 1;
  read : (var : ℕ) → 1 ≤ var → var ≤ l.before → marked l.values.items var ≡ true_in l.trail.entries (literal var true);
}
