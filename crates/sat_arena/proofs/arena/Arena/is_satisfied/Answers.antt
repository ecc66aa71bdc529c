use Rattle.std.proofs.Common.{◌≡◌, ◌<◌, ℕ, List, length, get_or, ap, sym, subst, ◌∙◌}
use Rattle.sat_arena.specs.Trails.{marked}
use Rattle.sat_arena.specs.ArenaState.{ArenaState, clause_satisfied, is_satisfied}
use Rattle.sat_arena.proofs.DeducedLemmas.{clause_at}
use Rattle.sat_arena.proofs.arena.Arena.is_satisfied.Goals as goal

pub returns : goal.returns
returns c d =
    let stored = c.self.inside.clauses in
    let within : c.args.at < length stored = subst (λ (a : ArenaState). c.args.at < length a.stored) (sym c.self.view_is) c.requires in
    c.clause_satisfied.ensures
    ∙ ap (clause_satisfied (marked c.args.literal_set.now)) (c.lits.ensures.same ∙ clause_at stored c.args.at d within)
    ∙ ap (λ (a : ArenaState). is_satisfied (marked c.args.literal_set.now) (get_or a.stored c.args.at d)) c.self.view_is
