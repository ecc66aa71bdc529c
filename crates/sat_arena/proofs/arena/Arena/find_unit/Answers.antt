use Rattle.std.proofs.Common.{◌≡◌, ◌<◌, ◌∷◌, [], ℕ, List, length, subst}
use Rattle.std.specs.Prelude.{IfNone, Contains}
use Rattle.sat_arena.specs.Stored.{Stored}
use Rattle.sat_arena.specs.ArenaState.{ArenaState, clauses_of, IsUnitOf}
use Rattle.sat_arena.specs.Watches.{clause_of, watch_of}
use Rattle.sat_arena.proofs.SearchLemmas.{if_none_weaker, no_unit}
use Rattle.sat_arena.proofs.arena.Arena.find_unit.Goals as goal

pub returns-clause-none : goal.returns-clause-none
returns-clause-none c =
    let a = c.self.inside in
    subst (λ (s : ArenaState). IfNone c.find_unit_in_list.result (Contains (clauses_of s.stored) (c.args.lit ∷ []) → ⊥)) c.self.view_is
    (if_none_weaker c.find_unit_in_list.result _ _ (no_unit (clauses_of a.clauses) a.watched.items c.args.lit c.self.invariant.watches)
    (subst (λ (ws : List ℕ). IfNone c.find_unit_in_list.result ((n : ℕ) → n < length ws → watch_of ws n ≡ c.args.lit → IsUnitOf c.args.lit (clause_of (clauses_of a.clauses) n) → ⊥)) c.deref.ensures.value c.find_unit_in_list.ensures.none))
