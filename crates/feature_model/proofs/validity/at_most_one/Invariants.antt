use Rattle.std.proofs.Common.{ℕ, ◌<◌}
use Rattle.feature_model.proofs.ValidityLemmas.{AloneAt}
use Rattle.feature_model.proofs.validity.at_most_one.Given as goal

abbrev pub invariant-loop-i : goal.invariant-loop-i
invariant-loop-i l = (one : ℕ) → one < l.i → AloneAt l.product l.children one
