use Rattle.std.proofs.Common.{◌≡◌, ◌<◌, ◌≤◌, ◌&&◌, ℕ, Bool, not, List, length, subst, sym, ap, ◌∙◌, arith, take, drop}
use Rattle.std.proofs.lemmas.List.{with_items_is}
use Rattle.std.specs.Prelude.{All, vec_capacity}
use Rattle.sat_arena.specs.declared.trail.Assigned.{Assigned}
use Rattle.sat_arena.specs.Trails.{KeepsTogether, up_to, true_in, marked}
use Rattle.sat_arena.proofs.LevelLemmas.{KeepsTogether-back, has_member}
use Rattle.sat_arena.proofs.trail.Trail.back.Goals as goal

-- the codes of the entries, for the slices that lend both
literal_set_of : (entries entries' : List Assigned) (truth truth' : List Bool) → entries' ≡ entries → truth' ≡ truth → All (λ e. e.lit < length truth) entries → All (λ e. e.lit < length truth') entries'
literal_set_of entries entries' truth truth' e t has = subst (λ (ts : List Bool). All (λ f. f.lit < length ts) entries') (sym t) (subst (λ (es : List Assigned). All (λ f. f.lit < length truth) es) (sym e) has)

pub clear-requires-clause-room : goal.clear-requires-clause-room
clear-requires-clause-room c =
    literal_set_of c.self.inside.entries.items c.deref-2.result.now c.self.inside.truth.items c.as_mut_slice.result.now c.deref-2.ensures.value c.as_mut_slice.ensures.value
    (has_member c.self.inside.entries.items c.self.inside.truth.items c.self.inside.positions.items c.self.inside.vars (vec_capacity c.self.inside.entries) c.self.invariant)

pub invariant_of-self : goal.invariant_of-self
invariant_of-self c =
    let literal_set = c.self.inside.truth in
    let kept = c.count_up_to-kept.result in
    let entries : c.deref.result.now ≡ c.self.inside.entries.items = c.deref.ensures.value in
    let entries' : c.deref-2.result.now ≡ c.self.inside.entries.items = c.deref-2.ensures.value in
    let long : length c.clear.new.truth ≡ length literal_set.items = c.clear.auto.truth ∙ ap length c.as_mut_slice.ensures.value in
    let cleared : (l : ℕ) → marked c.clear.new.truth l ≡ (marked literal_set.items l && not (true_in (drop kept c.self.inside.entries.items) l))
    = λ l. c.clear.ensures.cleared l
    ∙ ap (λ ts. marked ts l && not (true_in (drop kept c.deref-2.result.now) l)) c.as_mut_slice.ensures.value
    ∙ ap (λ es. marked literal_set.items l && not (true_in (drop kept es) l)) entries' in
    subst (λ (ts : List Bool). KeepsTogether c.truncate.new.self.items ts c.self.inside.positions.items c.self.inside.vars (vec_capacity c.truncate.new.self)) (sym (with_items_is literal_set c.clear.new.truth (long ∙ sym literal_set.ok.0)))
    (subst (λ (es : List Assigned). KeepsTogether es c.clear.new.truth c.self.inside.positions.items c.self.inside.vars (vec_capacity c.truncate.new.self)) (sym c.truncate.ensures.items)
    (KeepsTogether-back c.self.inside.entries.items literal_set.items c.clear.new.truth c.self.inside.positions.items c.self.inside.vars (vec_capacity c.self.inside.entries) (vec_capacity c.truncate.new.self) c.args.level kept
    c.self.invariant
    (subst (λ (es : List Assigned). kept ≤ length es) entries c.count_up_to-kept.ensures.within)
    (subst (λ (es : List Assigned). take kept es ≡ up_to c.args.level es) entries c.count_up_to-kept.ensures.kept)
    long cleared (omega (arith, c.truncate.ensures.capacity))))
