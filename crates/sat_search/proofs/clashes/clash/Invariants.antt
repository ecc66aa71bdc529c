use Rattle.std.proofs.Common.{◌≡◌, ◌==◌, ◌<◌, ℕ, false, get_or}
use Rattle.std.specs.List.{list_any}
use Rattle.sat_lits.specs.Literals.{negation}
use Rattle.sat_search.proofs.clashes.clash.Given as goal

abbrev pub invariant-loop-lit : goal.invariant-loop-lit
invariant-loop-lit l = (k : ℕ) → k < l.lit-index → list_any (λ x. x == negation (get_or l.lits k 0)) l.lits ≡ false
