use Rattle.std.proofs.Common.{◌≡◌, ◌<◌, List, length, get_or, ap, sym, subst}
use Rattle.std.specs.Prelude.{map}
use Rattle.sat_arena.specs.Stored.{Stored}
use Rattle.sat_arena.proofs.ClauseListLemmas.{header_within, id_at_header}
use Rattle.sat_arena.proofs.clause_list.ClauseList.id.Goals as goal

pub returns : goal.returns
returns c =
    let lits = c.self.inside.lits.items in
    let headers = c.self.inside.headers.items in
    let h = c.index.result.now in
    let within : c.args.at < length headers = header_within lits headers c.args.at (subst (λ (ss : List Stored). c.args.at < length ss) (sym c.self.view_is) c.requires) in
    subst (λ (ss : List Stored). h.id ≡ get_or (map (λ (s : Stored). s.id) ss) c.args.at h.id) c.self.view_is (id_at_header lits headers c.args.at h h.id within c.index.ensures)
