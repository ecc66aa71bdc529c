use Rattle.std.proofs.Common.{◌≡◌, ◌<◌, ℕ, List, [], length, get_or, ap, sym, subst, ◌∙◌}
use Rattle.std.specs.List.{between}
use Rattle.sat_lits.specs.Clauses.{HasRisingVariables}
use Rattle.sat_arena.specs.Stored.{Stored}
use Rattle.sat_arena.specs.ArenaState.{clauses_of}
use Rattle.sat_arena.proofs.ClauseListLemmas.{header_within, clause_at_header, header_at}
use Rattle.sat_arena.proofs.clause_list.ClauseList.lits.Goals as goal

pub returns-clause-same : goal.returns-clause-same
returns-clause-same c =
    let h = c.index-header.result.now in
    let within : c.args.at < length c.self.inside.headers.items = header_within c.self.inside.lits.items c.self.inside.headers.items c.args.at (subst (λ (ss : List Stored). c.args.at < length ss) (sym c.self.view_is) c.requires) in
    ap (between h.start h.stop) c.deref.ensures.value
    ∙ clause_at_header c.self.inside.lits.items c.self.inside.headers.items c.args.at h within c.index-header.ensures
    ∙ ap (λ (ss : List Stored). get_or (clauses_of ss) c.args.at []) c.self.view_is

pub returns-clause-rising : goal.returns-clause-rising
returns-clause-rising c =
    let h = c.index-header.result.now in
    let within : c.args.at < length c.self.inside.headers.items = header_within c.self.inside.lits.items c.self.inside.headers.items c.args.at (subst (λ (ss : List Stored). c.args.at < length ss) (sym c.self.view_is) c.requires) in
    subst (λ (xs : List ℕ). HasRisingVariables (between h.start h.stop xs)) (sym c.deref.ensures.value)
    (header_at c.self.inside.lits.items c.self.inside.headers.items c.args.at h within c.index-header.ensures c.self.invariant).rising
