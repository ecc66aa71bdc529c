use Rattle.std.proofs.Common.{◌≡◌, List, ℕ, [], length, arith}
use Rattle.std.proofs.lemmas.List.{length-map}
use Rattle.std.proofs.lemmas.List.Elements.{All-from_get_or}
use Rattle.sat_lits.specs.Steps.{IsFalsified}
use Rattle.sat_arena.specs.Trails.{marked}
use Rattle.sat_arena.specs.ArenaState.{clauses_of}
use Rattle.sat_arena.proofs.falsified.find_falsified.Goals as goal

pub returns-clause-none : goal.returns-clause-none
returns-clause-none c =
    let stored = c.args.arena.now.stored in
    let long : length (clauses_of stored) ≡ length stored = length-map stored (λ s. s.clause) in
    All-from_get_or (λ (clause : List ℕ). IsFalsified (marked c.args.literal_set.now) clause → ⊥) (clauses_of stored) [] (λ k within. c.loop-position.invariant k (omega arith))
