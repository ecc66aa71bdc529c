use Rattle.std.proofs.Common.{◌<◌, ℕ, get_or, []}
use Rattle.sat_lits.specs.Steps.{IsFalsified}
use Rattle.sat_arena.specs.Trails.{marked}
use Rattle.sat_arena.specs.ArenaState.{clauses_of}
use Rattle.sat_arena.proofs.falsified.find_falsified.Given as goal

abbrev pub invariant-loop-position : goal.invariant-loop-position
invariant-loop-position l = (k : ℕ) → k < l.position → IsFalsified (marked l.literal_set) (get_or (clauses_of l.arena.stored) k []) → ⊥
