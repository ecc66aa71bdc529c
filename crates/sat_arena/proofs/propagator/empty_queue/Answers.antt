use Rattle.std.proofs.Common.{◌≡◌, ◌<◌, ◌≤◌, ◌+◌, length, List, ℕ, subst, sym, ap, ◌∙◌, arith, refl}
use Rattle.sat_arena.specs.declared.trail.Assigned.{Assigned}
use Rattle.sat_arena.specs.Stored.{Stored}
use Rattle.sat_arena.specs.ArenaState.{ArenaState, clauses_of}
use Rattle.sat_arena.specs.Justified.{current_level}
use Rattle.sat_arena.specs.Guarded.{level_at}
use Rattle.sat_arena.specs.Deduced.{Deduces, nothing, IsConflict}
use Rattle.sat_arena.specs.Watches.{KeepsWatches}
use Rattle.sat_arena.proofs.LevelLaws.{current_level-deduced}
use Rattle.sat_arena.proofs.DeducedLemmas.{Deduces-join, longer_deduced}
use Rattle.sat_arena.proofs.PropagatorLemmas.{AreCurrentFrom-later, AreCurrentFrom-deduced, IsLast-current, level_at_head}
use Rattle.sat_arena.proofs.propagator.empty_queue.Goals as goal

pub loop-at-init : goal.loop-at-init
loop-at-init c = record {
  others = refl;
  vars = refl;
  deduced = nothing;
  within = c.requires.within;
  later = omega arith;
  current = c.requires.current;
  keeps = c.requires.keeps;
}

-- one entry more, from where the queue had come to
joined : (arena : ArenaState) (first mid after : List Assigned) (at : ℕ) (stored : List Stored) → arena.stored ≡ stored → level_at mid at ≡ current_level mid → Deduces (clauses_of stored) (current_level first) first mid → Deduces (clauses_of arena.stored) (level_at mid at) mid after → Deduces (clauses_of stored) (current_level first) first after
joined arena first mid after at stored same level old new =
    Deduces-join (clauses_of stored) (current_level first) first mid after old
    (subst (λ (n : ℕ). Deduces (clauses_of stored) n mid after) (level ∙ current_level-deduced (clauses_of stored) (current_level first) first mid old refl)
    (subst (λ (ss : List Stored). Deduces (clauses_of ss) (level_at mid at) mid after) same new))

pub visit_watches-requires-clause-last : goal.visit_watches-requires-clause-last
visit_watches-requires-clause-last c =
    IsLast-current c.loop-at.trail.entries c.loop-at.at c.entries.ensures.orderly.rising c.loop-at.invariant.current (omega (arith, c.loop-at-test.true, ap length c.entries.ensures.same))

pub returns-in-Some-clause-deduced : goal.returns-in-Some-clause-deduced
returns-in-Some-clause-deduced c =
    let within : c.loop-at.at < length c.loop-at.trail.entries = omega (arith, c.loop-at-test.true, ap length c.entries.ensures.same) in
    joined c.loop-at.arena c.args.trail.now.entries c.loop-at.trail.entries c.visit_watches.new.trail.entries c.loop-at.at c.args.arena.now.stored (ap (λ (a : ArenaState). a.stored) c.loop-at.invariant.others)
    (level_at_head c.loop-at.trail.entries c.loop-at.at c.loop-at.invariant.current within) c.loop-at.invariant.deduced c.visit_watches.ensures.deduced

pub returns-in-Some-clause-within : goal.returns-in-Some-clause-within
returns-in-Some-clause-within c =
    omega (arith, c.loop-at.invariant.within, longer_deduced (clauses_of c.loop-at.arena.stored) (level_at c.loop-at.trail.entries c.loop-at.at) c.loop-at.trail.entries c.visit_watches.new.trail.entries c.visit_watches.ensures.deduced)

pub loop-at-preserved : goal.loop-at-preserved
loop-at-preserved c =
    let first = c.args.trail.now.entries in
    let mid = c.loop-at.trail.entries in
    let after = c.visit_watches.new.trail.entries in
    let stored = c.args.arena.now.stored in
    let at = c.loop-at.at in
    let same : c.loop-at.arena.stored ≡ stored = ap (λ (a : ArenaState). a.stored) c.loop-at.invariant.others in
    let within : at < length mid = omega (arith, c.loop-at-test.true, ap length c.entries.ensures.same) in
    let level : level_at mid at ≡ current_level mid = level_at_head mid at c.loop-at.invariant.current within in
    let deduced : Deduces (clauses_of stored) (current_level mid) mid after
    = subst (λ (n : ℕ). Deduces (clauses_of stored) n mid after) level (subst (λ (ss : List Stored). Deduces (clauses_of ss) (level_at mid at) mid after) same c.visit_watches.ensures.deduced) in
    record {
      others = c.visit_watches.ensures.others ∙ ap (λ (a : ArenaState). record a { watched = c.visit_watches.new.self.watched }) c.loop-at.invariant.others;
      vars = c.visit_watches.ensures.vars ∙ c.loop-at.invariant.vars;
      deduced = joined c.loop-at.arena first mid after at stored same level c.loop-at.invariant.deduced c.visit_watches.ensures.deduced;
      within = omega (arith, within, longer_deduced (clauses_of stored) (current_level mid) mid after deduced);
      later = omega (arith, c.loop-at.invariant.later);
      current = AreCurrentFrom-later after at (at + 1) (omega arith) (AreCurrentFrom-deduced (clauses_of stored) (current_level mid) at mid after deduced refl c.loop-at.invariant.current);
      keeps = subst (λ (ss : List Stored). KeepsWatches after (at + 1) (clauses_of ss) c.visit_watches.new.self.watched) same c.in-None.ensures.done;
    }
