use Rattle.std.specs.Prelude.{◌≡◌, ℕ, Bool, false, List, Contains}
use Rattle.sat_lits.specs.Literals.{negation}
use Rattle.sat_lits.specs.Steps.{IsFalsified, Forces}
use Rattle.sat_arena.specs.declared.status.Status.{Status}
use Rattle.sat_arena.specs.declared.status.Status.TheVariants.{Settled, Forcing, Falsified}
use Rattle.sat_arena.specs.declared.status.Choice.{Choice}
use Rattle.sat_arena.specs.declared.status.Choice.TheVariants.{Stay, Move, Forcing as ChosenForcing, Falsified as ChosenFalsified}
use Rattle.sat_arena.specs.Settled.{HasTrue, IsSettled}

-- what becomes of a clause under the literals that are known to be true
abbrev pub HasStatus : (ℕ → Bool) → List ℕ → Status → Type 0
HasStatus known clause Settled = IsSettled known clause
HasStatus known clause (Forcing l) = Forces known clause l
HasStatus known clause Falsified = IsFalsified known clause

-- what a clause does when one of its watched literals became false, and this one is the other
abbrev pub IsChoice : (ℕ → Bool) → List ℕ → ℕ → Choice → Type 0
IsChoice known clause other Stay = HasTrue known clause
IsChoice known clause other (Move l) = Contains clause l × (l ≡ other → ⊥) × (known (negation l) ≡ false)
IsChoice known clause other (ChosenForcing l) = Forces known clause l
IsChoice known clause other ChosenFalsified = IsFalsified known clause
