use Rattle.std.proofs.Common.{take, drop, ◌++◌, ◌≡◌, ◌<◌, List, [], ℕ, length, set, subst, sym, ap, ◌∙◌}
use Rattle.std.proofs.lemmas.List.{with_items_is}
use Rattle.sat_arena.specs.Stored.{Stored}
use Rattle.sat_arena.specs.ArenaState.{ArenaState}
use Rattle.sat_arena.specs.Watches.{IsArena, MovesWatch}
use Rattle.sat_arena.proofs.ArenaLemmas.{IsArena-moved}
use Rattle.sat_arena.proofs.arena.Arena.move_watch.Goals as goal

pub invariant_of-self : goal.invariant_of-self
invariant_of-self c =
    let a = c.self.inside in
    let watched = c.move_to_list.new.watched in
    let links = c.move_to_list.new.links in
    let heads = c.move_to_list.new.heads in
    let long : length heads ≡ length a.heads.items = c.move_to_list.auto.heads ∙ ap length c.as_mut_slice-in-Some-2.ensures.value in
    let moves : MovesWatch a.clauses a.watched.items c.args.at c.args.from c.args.to c.in-Some.watch
    = subst (λ (s : ArenaState). MovesWatch s.stored s.watched c.args.at c.args.from c.args.to c.in-Some.watch) (sym c.self.view_is) c.in-Some.ensures.some in
    let L : List ℕ = take a.links.len (links ++ drop (length links) a.links.items) in
    let H : List ℕ = take a.heads.len (heads ++ drop (length heads) a.heads.items) in
    subst (λ (ws : List ℕ). IsArena a.clauses ws L H a.vars) (sym (with_items_is a.watched watched (c.move_to_list.auto.watched ∙ ap length c.as_mut_slice.ensures.value ∙ sym a.watched.ok.0)))
    (subst (λ (ls : List ℕ). IsArena a.clauses watched ls H a.vars) (sym (with_items_is a.links links (c.move_to_list.auto.links ∙ ap length c.as_mut_slice-in-Some.ensures.value ∙ sym a.links.ok.0)))
    (subst (λ (hs : List ℕ). IsArena a.clauses watched links hs a.vars) (sym (with_items_is a.heads heads (long ∙ sym a.heads.ok.0)))
    (IsArena-moved a.clauses a.watched.items watched a.links.items links a.heads.items heads a.vars c.args.at c.args.from c.args.to c.in-Some.watch c.self.invariant moves
    (c.move_to_list.ensures.watched ∙ ap (λ (ws : List ℕ). set ws c.in-Some.watch c.args.to) c.as_mut_slice.ensures.value) long c.move_to_list.ensures.listed)))
