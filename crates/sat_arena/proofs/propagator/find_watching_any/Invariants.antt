use Rattle.std.proofs.Common.{◌≡◌, ◌<◌, ℕ, length, get_or}
use Rattle.sat_lits.specs.Literals.{negation}
use Rattle.sat_lits.specs.Steps.{IsFalsified}
use Rattle.sat_arena.specs.Trails.{marked}
use Rattle.sat_arena.specs.ArenaState.{clauses_of}
use Rattle.sat_arena.specs.Watches.{clause_of, watch_of}
use Rattle.sat_arena.proofs.propagator.find_watching_any.Given as goal

abbrev pub invariant-loop-lit : goal.invariant-loop-lit
invariant-loop-lit l =
    (k : ℕ) → k < l.lit-index → (n : ℕ) → n < length l.arena.watched → watch_of l.arena.watched n ≡ negation (get_or l.lits k 0) → IsFalsified (marked l.literal_set) (clause_of (clauses_of l.arena.stored) n) → ⊥
