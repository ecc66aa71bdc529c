use Rattle.std.proofs.Common.{◌≡◌, ◌<◌, ◌∷◌, [], None, Option, length, get_or, List, ℕ, subst, sym, ap, ◌∙◌, arith, refl}
use Rattle.std.specs.Prelude.{All, Contains}
use Rattle.std.proofs.lemmas.List.{length-map, get_or_default}
use Rattle.sat_arena.specs.declared.trail.Assigned.{Assigned}
use Rattle.sat_arena.specs.Stored.{Stored}
use Rattle.sat_arena.specs.ArenaState.{clauses_of, among, is_satisfied}
use Rattle.sat_arena.specs.Justified.{IsJustified}
use Rattle.sat_arena.specs.PropagatorState.{IsPropagator, PropagatorState}
use Rattle.sat_arena.specs.Moved.{Reclaims}
use Rattle.sat_arena.proofs.MovedLemmas.{HaveTargets-reclaimed, IsPropagator-reclaimed, AreAlike-moved, KeepsReason-moved}
use Rattle.sat_arena.proofs.propagator.Propagator.reclaim.Goals as goal

pub move_reasons-requires : goal.move_reasons-requires
move_reasons-requires c =
    let p = c.self.inside in
    HaveTargets-reclaimed c.args.root.now p.arena.stored c.reclaim.new.self p.trail.entries p.trail.vars c.entries-entries.ensures.orderly
    (subst (λ (s : PropagatorState). IsJustified (clauses_of s.stored) s.entries) (sym c.self.view_is) c.requires.justified)
    (c.self.invariant.short c.in-None.is)
    (subst (λ (s : PropagatorState). All (λ l. Contains (clauses_of s.stored) (l ∷ [])) c.args.root.now) (sym c.self.view_is) c.requires.units)
    c.in_ok-count-in-None.ensures.ok c.in_ok-count-in-None.ensures.moved

pub invariant_of-self-in-None : goal.invariant_of-self-in-None
invariant_of-self-in-None c =
    let p = c.self.inside in
    let before : IsPropagator p.arena.stored p.arena.watched p.arena.vars p.trail.entries p.trail.vars p.head None
    = subst (λ (r : Option ℕ). IsPropagator p.arena.stored p.arena.watched p.arena.vars p.trail.entries p.trail.vars p.head r) c.in-None.is c.self.invariant in
    let arena = c.reclaim.new.self in
    let entries = c.move_reasons.new.trail.entries in
    subst (λ (r : Option ℕ). IsPropagator arena.stored arena.watched arena.vars entries c.move_reasons.new.trail.vars p.head r) (sym c.in-None.is)
    (subst (λ (n : ℕ). IsPropagator arena.stored arena.watched arena.vars entries n p.head None) (sym c.move_reasons.ensures.vars)
    (IsPropagator-reclaimed (among c.args.root.now) p.arena arena p.trail.entries entries p.trail.vars p.head before c.in_ok-count-in-None.ensures.ok c.in_ok-count-in-None.ensures.vars
    (c.in_ok-count-in-None.ensures.watches p.trail.entries p.head (c.self.invariant.keeps c.in-None.is)) (AreAlike-moved arena p.trail.entries entries c.move_reasons.ensures.entries)))

pub returns-in_ok-count-in-None-clause-some : goal.returns-in_ok-count-in-None-clause-some
returns-in_ok-count-in-None-clause-some c =
    let p = c.self.inside in
    let arena = c.reclaim.new.self in
    let justified = subst (λ (s : PropagatorState). IsJustified (clauses_of s.stored) s.entries) (sym c.self.view_is) c.requires.justified in
    subst (λ (s : PropagatorState). Reclaims c.args.root.now s (record { stored = arena.stored; entries = c.move_reasons.new.trail.entries; vars = c.move_reasons.new.trail.vars; head = p.head }) c.in_ok-count-in-None.count) c.self.view_is
    (record {
      stored = c.in_ok-count-in-None.ensures.ok;
      counted = c.in_ok-count-in-None.ensures.count;
      vars = c.move_reasons.ensures.vars;
      head = refl;
      long = c.move_reasons.ensures.entries.long;
      entries = λ i d within. KeepsReason-moved (is_satisfied (among c.args.root.now)) p.arena.stored arena (get_or p.trail.entries i d) (get_or c.move_reasons.new.trail.entries i d) c.in_ok-count-in-None.ensures.ok c.in_ok-count-in-None.ensures.moved
          (λ position some. omega (arith, (justified.reasons i position (get_or p.trail.entries i d) (within, get_or_default p.trail.entries i (get_or p.trail.entries i d) d within) some).0, length-map p.arena.stored (λ s. s.clause)))
          (c.move_reasons.ensures.entries.entries i d within);
    })
