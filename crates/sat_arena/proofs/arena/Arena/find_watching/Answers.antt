use Rattle.std.proofs.Common.{◌≡◌, ◌<◌, ℕ, List, length, subst}
use Rattle.std.specs.Prelude.{IfNone}
use Rattle.sat_lits.specs.Steps.{IsFalsified}
use Rattle.sat_arena.specs.Stored.{Stored}
use Rattle.sat_arena.specs.Trails.{marked}
use Rattle.sat_arena.specs.ArenaState.{ArenaState, clauses_of}
use Rattle.sat_arena.specs.Watches.{clause_of, watch_of}
use Rattle.sat_arena.proofs.arena.Arena.find_watching.Goals as goal

pub returns-clause-none : goal.returns-clause-none
returns-clause-none c =
    subst (λ (s : ArenaState). IfNone c.find_in_list.result ((n : ℕ) → n < length s.watched → watch_of s.watched n ≡ c.args.lit → IsFalsified (marked c.args.literal_set.now) (clause_of (clauses_of s.stored) n) → ⊥)) c.self.view_is
    (subst (λ (ws : List ℕ). IfNone c.find_in_list.result ((n : ℕ) → n < length ws → watch_of ws n ≡ c.args.lit → IsFalsified (marked c.args.literal_set.now) (clause_of (clauses_of c.self.inside.clauses) n) → ⊥)) c.deref.ensures.value c.find_in_list.ensures.none)
