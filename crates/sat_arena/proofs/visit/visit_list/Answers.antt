use Rattle.std.proofs.Common.{◌≡◌, ℕ, ◌+◌, ◌*◌, ◌<◌, ◌≤◌, ◌-◌, [], List, length, ap, sym, ◌∙◌, subst, refl, arith, set, length-set}
use Rattle.std.specs.Prelude.{All}
use Rattle.std.proofs.lemmas.List.Elements.{All-set}
use Rattle.sat_lits.specs.Literals.{negation}
use Rattle.sat_arena.specs.declared.trail.Assigned.{Assigned}
use Rattle.sat_arena.specs.Deduced.{Deduces, nothing}
use Rattle.sat_arena.specs.ArenaState.{clauses_of}
use Rattle.sat_arena.specs.Watches.{KeepsWatches, IsVisiting}
use Rattle.sat_arena.proofs.DeducedLemmas.{current_level_deduced, Deduces-join}
use Rattle.sat_arena.proofs.WatchLemmas.{IsEntryAt-deduced, KeepsWatches-moved}
use Rattle.sat_arena.proofs.VisitLemmas.{shorter, first_linked, first_watched, first_watches, whole, IsVisiting-start, IsVisiting-moved, IsVisiting-deduced, IsVisiting-end}
use Rattle.sat_arena.proofs.visit.visit_list.Goals as goal

pub loop-pending-init : goal.loop-pending-init
loop-pending-init c =
    record { vars = refl; deduced = nothing; keeps = c.requires.keeps; within = subst (λ (n : ℕ). All (λ (w : ℕ). w < n) c.args.watched.now) (sym (length-set c.args.heads.now c.code-list.result 0)) c.requires.within; walking = IsVisiting-start c.args.trail.now.entries c.args.head (clauses_of c.args.clauses.now) c.args.links.now c.args.heads.now c.args.watched.now (negation c.args.entry.now.lit) c.code-list.result c.requires.listed (omega (arith, c.requires.room.1, c.requires.heads)) (c.code-list.ensures.code ∙ c.negate-falsified.ensures.negation) }

pub visit-found-requires-clause-stands : goal.visit-found-requires-clause-stands
visit-found-requires-clause-stands c =
    IsEntryAt-deduced (clauses_of c.args.clauses.now) c.args.entry.now.level c.args.head c.args.entry.now c.args.trail.now.entries c.loop-pending.trail.entries c.loop-pending.invariant.deduced c.requires.stands

pub visit-found-requires-clause-current_level : goal.visit-found-requires-clause-current_level
visit-found-requires-clause-current_level c =
    current_level_deduced (clauses_of c.args.clauses.now) c.args.entry.now.level c.args.trail.now.entries c.loop-pending.trail.entries c.loop-pending.invariant.deduced c.requires.current_level

pub visit-found-requires-clause-watch : goal.visit-found-requires-clause-watch
visit-found-requires-clause-watch c =
    first_watched c.loop-pending.links c.loop-pending.heads c.loop-pending.watched c.loop-pending.invariant.walking.pending (negation c.args.entry.now.lit) c.loop-pending.pending c.loop-pending.invariant.walking.listed (omega arith)

pub visit-found-requires-clause-watches : goal.visit-found-requires-clause-watches
visit-found-requires-clause-watches c =
    first_watches c.loop-pending.links c.loop-pending.heads c.loop-pending.watched c.loop-pending.invariant.walking.pending (negation c.args.entry.now.lit) c.loop-pending.pending c.loop-pending.invariant.walking.listed (omega arith)

pub bounds-links-watch : goal.bounds-links-watch
bounds-links-watch c =
    first_linked c.loop-pending.links c.loop-pending.heads c.loop-pending.watched c.loop-pending.invariant.walking.pending (negation c.args.entry.now.lit) c.loop-pending.pending c.loop-pending.invariant.walking.listed (omega arith)

pub put_first-requires-clause-watch : goal.put_first-requires-clause-watch
put_first-requires-clause-watch c =
    first_watched c.loop-pending.links c.loop-pending.heads c.loop-pending.watched c.loop-pending.invariant.walking.pending (negation c.args.entry.now.lit) c.loop-pending.pending c.loop-pending.invariant.walking.listed (omega arith)

pub put_first-requires-clause-linked : goal.put_first-requires-clause-linked
put_first-requires-clause-linked c =
    first_linked c.loop-pending.links c.loop-pending.heads c.loop-pending.watched c.loop-pending.invariant.walking.pending (negation c.args.entry.now.lit) c.loop-pending.pending c.loop-pending.invariant.walking.listed (omega arith)

pub loop-pending-smaller : goal.loop-pending-smaller
loop-pending-smaller c =
    shorter c.loop-pending.links c.loop-pending.heads c.loop-pending.watched c.loop-pending.invariant.walking.pending (negation c.args.entry.now.lit) c.loop-pending.pending c.loop-pending.invariant.walking.listed (omega arith) c.put_first.new.links c.put_first.new.heads c.put_first.new.watched c.in-Some.lit (omega (arith, c.in-Some.ensures.grown, c.loop-pending.invariant.vars, c.loop-pending.auto.heads, c.requires.heads, length-set c.args.heads.now c.code-list.result 0)) c.put_first.ensures.watched c.put_first.ensures.links c.put_first.ensures.heads

pub loop-pending-preserved : goal.loop-pending-preserved
loop-pending-preserved c =
    let stands = IsEntryAt-deduced (clauses_of c.args.clauses.now) c.args.entry.now.level c.args.head c.args.entry.now c.args.trail.now.entries c.loop-pending.trail.entries c.loop-pending.invariant.deduced c.requires.stands in
    record {
      vars = c.visit-found.ensures.vars ∙ c.loop-pending.invariant.vars;
      deduced = Deduces-join (clauses_of c.args.clauses.now) c.args.entry.now.level c.args.trail.now.entries c.loop-pending.trail.entries c.visit-found.new.trail.entries c.loop-pending.invariant.deduced c.visit-found.ensures.deduced;
      keeps = subst (λ (ws : List ℕ). KeepsWatches c.visit-found.new.trail.entries c.args.head (clauses_of c.args.clauses.now) ws) (sym c.put_first.ensures.watched)
          (KeepsWatches-moved c.visit-found.new.trail.entries c.args.head (clauses_of c.args.clauses.now) c.loop-pending.watched (c.loop-pending.pending - 1) (negation c.args.entry.now.lit) c.in-Some.lit c.visit-found.ensures.keeps (first_watched c.loop-pending.links c.loop-pending.heads c.loop-pending.watched c.loop-pending.invariant.walking.pending (negation c.args.entry.now.lit) c.loop-pending.pending c.loop-pending.invariant.walking.listed (omega arith)) c.in-Some.ensures.held c.in-Some.ensures.next);
      within = subst (λ (ws : List ℕ). All (λ (w : ℕ). w < length c.put_first.new.heads) ws) (sym c.put_first.ensures.watched)
          (subst (λ (n : ℕ). All (λ (w : ℕ). w < n) (set c.loop-pending.watched (c.loop-pending.pending - 1) c.in-Some.lit)) (sym c.put_first.auto.heads)
          (All-set (λ (w : ℕ). w < length c.loop-pending.heads) c.loop-pending.watched (c.loop-pending.pending - 1) c.in-Some.lit
          (omega (arith, c.in-Some.ensures.grown, c.loop-pending.invariant.vars, c.loop-pending.auto.heads, c.requires.heads, length-set c.args.heads.now c.code-list.result 0)) c.loop-pending.invariant.within));
      walking = IsVisiting-moved c.visit-found.new.trail.entries c.args.head (clauses_of c.args.clauses.now) c.loop-pending.links c.loop-pending.heads c.loop-pending.watched c.put_first.new.links c.put_first.new.heads c.put_first.new.watched (negation c.args.entry.now.lit) c.loop-pending.pending c.in-Some.lit
          (IsVisiting-deduced c.loop-pending.trail.entries c.visit-found.new.trail.entries c.args.entry.now.level c.args.head (clauses_of c.args.clauses.now) c.loop-pending.links c.loop-pending.heads c.loop-pending.watched (negation c.args.entry.now.lit) c.loop-pending.pending c.visit-found.ensures.deduced stands.0 c.loop-pending.invariant.walking)
          (omega arith) (omega (arith, c.in-Some.ensures.grown, c.loop-pending.invariant.vars, c.loop-pending.auto.heads, c.requires.heads, length-set c.args.heads.now c.code-list.result 0)) c.in-Some.ensures.next c.put_first.ensures.watched c.put_first.ensures.links c.put_first.ensures.heads;
    }

pub returns-in-None-clause-deduced : goal.returns-in-None-clause-deduced
returns-in-None-clause-deduced c =
    Deduces-join (clauses_of c.args.clauses.now) c.args.entry.now.level c.args.trail.now.entries c.loop-pending.trail.entries c.visit-found.new.trail.entries c.loop-pending.invariant.deduced c.visit-found.ensures.deduced

pub returns-clause-listed : goal.returns-clause-listed
returns-clause-listed c =
    whole c.loop-pending.links c.loop-pending.heads c.loop-pending.watched c.loop-pending.invariant.walking.pending (negation c.args.entry.now.lit) c.loop-pending.pending c.loop-pending.invariant.walking.listed (omega arith)

pub returns-clause-done : goal.returns-clause-done
returns-clause-done c =
    IsVisiting-end c.loop-pending.trail.entries c.args.head c.args.entry.now (clauses_of c.args.clauses.now) c.loop-pending.links c.loop-pending.heads c.loop-pending.watched c.loop-pending.pending c.loop-pending.invariant.walking (omega arith) (IsEntryAt-deduced (clauses_of c.args.clauses.now) c.args.entry.now.level c.args.head c.args.entry.now c.args.trail.now.entries c.loop-pending.trail.entries c.loop-pending.invariant.deduced c.requires.stands) c.loop-pending.invariant.keeps
