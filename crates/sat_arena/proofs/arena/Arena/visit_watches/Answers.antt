use Rattle.std.proofs.Common.{take, drop, ◌++◌, ◌≡◌, ◌≤◌, ◌<◌, ◌+◌, length, List, [], ℕ, subst, sym, ap, ◌∙◌, arith, refl}
use Rattle.std.specs.Prelude.{All}
use Rattle.std.proofs.lemmas.List.{with_items_is}
use Rattle.sat_arena.specs.Stored.{Stored}
use Rattle.sat_arena.specs.ArenaState.{clauses_of}
use Rattle.sat_arena.specs.Links.{AreListed}
use Rattle.sat_arena.specs.Watches.{IsArena, KeepsWatches}
use Rattle.sat_arena.proofs.ArenaLemmas.{IsArena-visited}
use Rattle.sat_arena.proofs.arena.Arena.visit_watches.Goals as goal

pub invariant_of-self : goal.invariant_of-self
invariant_of-self c =
    let a = c.self.inside in
    let watched = c.visit_list.new.watched in
    let links = c.visit_list.new.links in
    let heads = c.visit_list.new.heads in
    let long : length heads ≡ length a.heads.items = c.visit_list.auto.heads ∙ ap length c.as_mut_slice-3.ensures.value in
    let keeps = c.visit_list.ensures.keeps in
    let L : List ℕ = take a.links.len (links ++ drop (length links) a.links.items) in
    let H : List ℕ = take a.heads.len (heads ++ drop (length heads) a.heads.items) in
    subst (λ (ws : List ℕ). IsArena a.clauses ws L H a.vars) (sym (with_items_is a.watched watched (c.visit_list.auto.watched ∙ ap length c.as_mut_slice.ensures.value ∙ sym a.watched.ok.0)))
    (subst (λ (ls : List ℕ). IsArena a.clauses watched ls H a.vars) (sym (with_items_is a.links links (c.visit_list.auto.links ∙ ap length c.as_mut_slice-2.ensures.value ∙ sym a.links.ok.0)))
    (subst (λ (hs : List ℕ). IsArena a.clauses watched links hs a.vars) (sym (with_items_is a.heads heads (long ∙ sym a.heads.ok.0)))
    (IsArena-visited a.clauses c.visit_list.new.trail.entries c.args.head a.watched.items watched a.links.items links a.heads.items heads a.vars c.self.invariant keeps c.visit_list.ensures.listed c.visit_list.ensures.within long)))
