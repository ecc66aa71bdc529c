use Rattle.std.proofs.Common.{◌≡◌, ◌↔◌, ◌⊎◌, ◌++◌, ◌∷◌, ℕ, List, [], get_or, subst, sym, ap, ◌∙◌, refl}
use Rattle.std.proofs.lemmas.List.{get_or_default, get_or-map}
use Rattle.sat_arena.specs.Stored.{Stored}
use Rattle.sat_analyze.specs.Marked.{IsMarked, IsPositionOf, IsLowest}
use Rattle.sat_analyze.proofs.WalkLemmas.{met_clause}
use Rattle.sat_analyze.proofs.walk.Walk.meet.Goals as goal

pub returns : goal.returns
returns c =
    let stored = c.args.arena.now.stored in
    let other : Stored = record { clause = []; id = c.id.result } in
    let met : Stored = get_or stored c.args.at other in
    let there : get_or stored c.args.at met ≡ met = get_or_default stored c.args.at met other c.requires.within in
    let clause : c.lits.result.now ≡ met.clause = c.lits.ensures ∙ met_clause stored c.args.at met c.requires.within there in
    let id : c.id.result ≡ met.id = c.id.ensures ∙ get_or-map (λ (s : Stored). s.id) stored c.args.at other c.id.result c.requires.within in
    let pushed : c.push.new.self.items ≡ c.args.self.now.hints.items ++ c.id.result ∷ [] = c.in_ok-push.ensures.items in
    let hints : c.push.new.self.items ≡ c.args.self.now.hints.items ++ met.id ∷ [] = pushed ∙ ap (λ n. c.args.self.now.hints.items ++ n ∷ []) id in
    record {
      met = met;
      within = c.requires.within;
      there = there;
      exact = λ i. subst (λ (lits : List ℕ). IsMarked c.mark.new.self.seen.items i ↔ (IsMarked c.args.self.now.marks.seen.items i ⊎ IsPositionOf c.args.positions.now lits i)) clause (c.mark.ensures.exact i);
      sized = c.mark.ensures.sized;
      lowest = subst (λ (n : ℕ). IsLowest c.mark.new.self.seen.items n c.mark.new.self.lowest) (sym c.mark.ensures.start) c.mark.ensures.lowest;
      start = c.mark.ensures.start;
      hints = hints;
      kept = refl;
      level = refl;
    }
