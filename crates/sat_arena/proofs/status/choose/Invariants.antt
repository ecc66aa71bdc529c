use Rattle.std.proofs.Common.{◌≡◌, ◌<◌, ℕ, true, slice_index}
use Rattle.sat_lits.specs.Literals.{negation}
use Rattle.sat_arena.specs.Trails.{true_in}
use Rattle.sat_arena.proofs.status.choose.Given as goal

abbrev pub invariant-loop-index : goal.invariant-loop-index
invariant-loop-index l = (k : ℕ) → k < l.index → (slice_index l.lits k ≡ l.other → ⊥) → true_in l.trail.entries (negation (slice_index l.lits k)) ≡ true
