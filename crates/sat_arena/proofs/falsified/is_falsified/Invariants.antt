use Rattle.std.proofs.Common.{◌≡◌, ◌<◌, ℕ, true, get_or}
use Rattle.sat_lits.specs.Literals.{negation}
use Rattle.sat_arena.specs.Trails.{marked}
use Rattle.sat_arena.proofs.falsified.is_falsified.Given as goal

abbrev pub invariant-loop-lit : goal.invariant-loop-lit
invariant-loop-lit l = (k : ℕ) → k < l.lit-index → marked l.literal_set (negation (get_or l.lits k 0)) ≡ true
