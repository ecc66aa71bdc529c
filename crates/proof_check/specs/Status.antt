use Rattle.std.specs.Prelude.{ℕ, Bool, List}
use Rattle.sat_lits.specs.Steps.{IsFalsified, Forces}
use Rattle.proof_check.specs.declared.steps.Status.{Status}
use Rattle.proof_check.specs.declared.steps.Status.TheVariants.{Falsified, Forcing, Idle}

-- what becomes of a clause under the literals that are known to be true
abbrev pub HasStatus : (ℕ → Bool) → List ℕ → Status → Type 0
HasStatus known clause Falsified = IsFalsified known clause
HasStatus known clause (Forcing l) = Forces known clause l
HasStatus known clause Idle = (IsFalsified known clause → ⊥) × ((l : ℕ) → Forces known clause l → ⊥)
