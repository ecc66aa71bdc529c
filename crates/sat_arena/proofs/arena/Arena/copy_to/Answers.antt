use Rattle.std.proofs.Common.{◌≡◌, ◌<◌, ◌++◌, ◌∷◌, [], List, Option, Some, ℕ, length, get_or, ap, sym, subst, arith, ◌∙◌}
use Rattle.std.specs.Prelude.{All}
use Rattle.std.proofs.lemmas.List.{length-map}
use Rattle.std.proofs.lemmas.List.Elements.{All-get_or}
use Rattle.std.proofs.lemmas.Result.{on_ok_weaker}
use Rattle.sat_arena.specs.Trails.{IsGrown}
use Rattle.sat_arena.specs.Stored.{Stored}
use Rattle.sat_arena.specs.ArenaState.{ArenaState, clauses_of}
use Rattle.sat_arena.proofs.DeducedLemmas.{stored_at}
use Rattle.sat_arena.proofs.arena.Arena.copy_to.Goals as goal

pub returns-clause-ok : goal.returns-clause-ok
returns-clause-ok c =
    let source = c.args.self.now in
    let old = c.args.kept.now in
    let added = c.in_ok-position.ensures.ok in
    let read : c.lits-lits.result.now ≡ get_or (clauses_of c.args.self.now.stored) c.args.at [] = c.lits-lits.ensures.same ∙ ap (λ (a : ArenaState). get_or (clauses_of a.stored) c.args.at []) c.self.view_is in
    on_ok_weaker c.note_move.result (λ noted. record {
      first = c.watches_or_any-pair.result.first;
      second = c.watches_or_any-pair.result.second;
      stored = λ d. ap (λ (a : ArenaState). a.stored) noted ∙ ap (λ (a : ArenaState). a.stored) added
          ∙ ap (λ (s : Stored). old.stored ++ s ∷ []) (stored_at source.stored c.args.at d c.lits-lits.result.now c.id.result c.requires.at read c.id.ensures);
      watched = ap (λ (a : ArenaState). a.watched) noted ∙ ap (λ (a : ArenaState). a.watched) added;
      moved = ap (λ (a : ArenaState). a.moved) noted ∙ ap (λ (a : ArenaState). a.moved ++ Some c.in_ok-position.position ∷ []) added ∙ ap (λ k. old.moved ++ Some k ∷ []) c.in_ok-position.ensures.position;
      same_first = λ longer. (c.watches_or_any-pair.ensures.same longer).0;
      same_second = λ longer. (c.watches_or_any-pair.ensures.same longer).1;
    }) c.note_move.ensures.ok

pub add_lits-requires-clause-grown : goal.add_lits-requires-clause-grown
add_lits-requires-clause-grown c =
    let s = c.args.self.now in
    let read : c.lits-lits.result.now ≡ get_or (clauses_of c.args.self.now.stored) c.args.at [] = c.lits-lits.ensures.same ∙ ap (λ (a : ArenaState). get_or (clauses_of a.stored) c.args.at []) c.self.view_is in
    subst (λ (n : ℕ). All (IsGrown n) c.lits-lits.result.now) (sym c.requires.vars) (subst (λ (cl : List ℕ). All (IsGrown s.vars) cl) (sym read)
    (All-get_or (λ (cl : List ℕ). All (IsGrown s.vars) cl) (clauses_of s.stored) c.args.at [] (omega (arith, c.requires.at, length-map s.stored (λ x. x.clause))) c.len-count.ensures.grown))
