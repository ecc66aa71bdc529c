use Rattle.std.proofs.Common.{◌≡◌, ◌<◌, ℕ, false, get_or}
use Rattle.sat_analyze.proofs.marks.has_mark.Given as goal

abbrev pub invariant-loop-flag : goal.invariant-loop-flag
invariant-loop-flag l = l.any ≡ false → (k : ℕ) → k < l.flag-index → get_or l.seen k false ≡ false
