use Rattle.std.proofs.Common.{◌≡◌, ℕ, ◌<◌, [], ◌∷◌, None, get_or}
use Rattle.sat_lits.specs.Table.{number_of}
use Rattle.proof_check.proofs.live.has_unit_entry.Given as goal

abbrev pub invariant-loop-lit : goal.invariant-loop-lit
invariant-loop-lit l = (k : ℕ) → k < l.lit-index → number_of l.numbers (get_or l.lits k 0 ∷ []) ≡ None
