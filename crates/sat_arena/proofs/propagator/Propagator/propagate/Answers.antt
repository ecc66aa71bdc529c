use Rattle.std.proofs.Common.{◌≡◌, ◌≤◌, None, Some, Option, length, List, ℕ, subst, sym, ap, ◌∙◌, arith, refl}
use Rattle.std.specs.Prelude.{All, IfSome, IfNone}
use Rattle.sat_arena.specs.declared.trail.Assigned.{Assigned}
use Rattle.sat_arena.specs.Stored.{Stored}
use Rattle.sat_arena.specs.ArenaState.{ArenaState, clauses_of}
use Rattle.sat_arena.specs.Trails.{true_in, up_to}
use Rattle.sat_arena.specs.Settled.{IsSettled}
use Rattle.sat_arena.specs.Justified.{current_level}
use Rattle.sat_arena.specs.Deduced.{Deduces, nothing, IsConflict}
use Rattle.sat_arena.specs.Watches.{KeepsWatches}
use Rattle.sat_arena.specs.PropagatorState.{IsPropagator, PropagatorState}
use Rattle.sat_arena.proofs.TrueInLemmas.{true_in_from_up_to}
use Rattle.sat_arena.proofs.PropagatorLemmas.{refuted_more, IsPropagator-deduced, AreShortTrue-deduced, settled_at_end}
use Rattle.sat_arena.proofs.propagator.Propagator.propagate.Goals as goal

pub returns-in-Some-clause-deduced : goal.returns-in-Some-clause-deduced
returns-in-Some-clause-deduced c =
    nothing

pub returns-in-Some-clause-conflict : goal.returns-in-Some-clause-conflict
returns-in-Some-clause-conflict c =
    let p = c.self.inside in
    let at : IfSome p.refuted (IsConflict (clauses_of p.arena.stored) p.trail.entries)
    = refuted_more (clauses_of p.arena.stored) (up_to 0 p.trail.entries) p.trail.entries p.refuted (true_in_from_up_to 0 p.trail.entries) c.self.invariant.refuted_at in
    subst (λ (s : PropagatorState). IsConflict (clauses_of s.stored) s.entries c.in-Some.position) c.self.view_is (subst (λ (r : Option ℕ). IfSome r (IsConflict (clauses_of p.arena.stored) p.trail.entries)) c.in-Some.is at)

-- a propagator over the arena and the trail that its queue left
with_arena : (arena before : ArenaState) (entries : List Assigned) (vars vars' head : ℕ) (refuted : Option ℕ) → arena ≡ record before { watched = arena.watched } → vars' ≡ vars → refuted ≡ None → IsPropagator before.stored arena.watched before.vars entries vars head None → IsPropagator arena.stored arena.watched arena.vars entries vars' head refuted
with_arena arena before entries vars vars' head refuted is same none keeps =
    subst (λ (r : Option ℕ). IsPropagator arena.stored arena.watched arena.vars entries vars' head r) (sym none)
    (subst (λ (n : ℕ). IsPropagator arena.stored arena.watched arena.vars entries n head None) (sym same)
    (subst (λ (a : ArenaState). IsPropagator a.stored arena.watched a.vars entries vars head None) (sym is) keeps))

pub invariant_of-self : goal.invariant_of-self
invariant_of-self c =
    let p = c.self.inside in
    let before : IsPropagator p.arena.stored p.arena.watched p.arena.vars p.trail.entries p.trail.vars p.head None
    = subst (λ (r : Option ℕ). IsPropagator p.arena.stored p.arena.watched p.arena.vars p.trail.entries p.trail.vars p.head r) c.in-None.is c.self.invariant in
    with_arena c.empty_queue-end.new.arena p.arena c.empty_queue-end.new.trail.entries p.trail.vars c.empty_queue-end.new.trail.vars c.empty_queue-end.result.head p.refuted c.empty_queue-end.ensures.others c.empty_queue-end.ensures.vars c.in-None.is
    (IsPropagator-deduced p.arena.stored p.arena.watched c.empty_queue-end.new.arena.watched p.arena.vars p.trail.vars p.head c.empty_queue-end.result.head p.trail.entries c.empty_queue-end.new.trail.entries before c.empty_queue-end.ensures.deduced c.empty_queue-end.ensures.later c.empty_queue-end.ensures.within c.empty_queue-end.ensures.keeps)

if_none : (r : Option ℕ) (P Q : Type 0) → (P → Q) → IfNone r P → IfNone r Q
if_none None P Q more p = more p
if_none (Some x) P Q more p = tt

pub returns-in-None-clause-settled : goal.returns-in-None-clause-settled
returns-in-None-clause-settled c =
    let p = c.self.inside in
    let after = c.empty_queue-end.new.trail.entries in
    let before = c.self.invariant.short c.in-None.is in
    subst (λ (s : PropagatorState). IfNone c.empty_queue-end.result.conflict (All (IsSettled (true_in after)) (clauses_of s.stored))) c.self.view_is
    (if_none c.empty_queue-end.result.conflict (c.empty_queue-end.result.head ≡ length after) (All (IsSettled (true_in after)) (clauses_of p.arena.stored))
    (λ done. settled_at_end after c.empty_queue-end.result.head (clauses_of p.arena.stored) c.empty_queue-end.new.arena.watched c.empty_queue-end.ensures.keeps
    (AreShortTrue-deduced (clauses_of p.arena.stored) (current_level p.trail.entries) p.trail.entries after (clauses_of p.arena.stored) c.empty_queue-end.ensures.deduced before) (omega arith))
    c.empty_queue-end.ensures.done)
