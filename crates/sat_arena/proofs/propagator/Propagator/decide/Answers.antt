use Rattle.std.proofs.Common.{◌≡◌, ◌≤◌, ◌+◌, ◌++◌, ◌∷◌, [], None, length, List, ℕ, subst, sym, ap, ◌∙◌, arith, get_or}
use Rattle.sat_arena.specs.declared.trail.Assigned.{Assigned}
use Rattle.sat_arena.specs.Justified.{current_level}
use Rattle.sat_arena.specs.TrailState.{TrailState}
use Rattle.sat_arena.specs.PropagatorState.{IsPropagator, PropagatorState}
use Rattle.sat_arena.proofs.LevelLaws.{current_level_is_greatest}
use Rattle.sat_arena.proofs.PropagatorLemmas.{IsPropagator-decide}
use Rattle.sat_arena.proofs.propagator.Propagator.decide.Goals as goal

pub push-requires-clause-current_level : goal.push-requires-clause-current_level
push-requires-clause-current_level c k d within =
    let low : (get_or c.self.inside.trail.entries k d).level ≤ current_level c.self.inside.trail.entries = current_level_is_greatest c.self.inside.trail.entries c.entries-entries.ensures.orderly.rising k d within in
    omega (arith, c.in-Some.ensures, c.level.ensures)

pub invariant_of-self : goal.invariant_of-self
invariant_of-self c =
    let p = c.self.inside in
    let entry : Assigned = record { lit = c.args.lit; level = c.in-Some.level; reason = None } in
    let entries : c.push.new.self.entries ≡ p.trail.entries ++ entry ∷ [] = ap (λ (t : TrailState). t.entries) c.push.ensures in
    let vars : c.push.new.self.vars ≡ p.trail.vars = ap (λ (t : TrailState). t.vars) c.push.ensures in
    let done : p.head ≡ length p.trail.entries = ap (λ (s : PropagatorState). s.head) c.self.view_is ∙ c.requires.done ∙ sym (ap (λ (s : PropagatorState). length s.entries) c.self.view_is) in
    subst (λ (n : ℕ). IsPropagator p.arena.stored p.arena.watched p.arena.vars c.push.new.self.entries n p.head p.refuted) (sym vars)
    (subst (λ (es : List Assigned). IsPropagator p.arena.stored p.arena.watched p.arena.vars es p.trail.vars p.head p.refuted) (sym entries)
    (IsPropagator-decide p.arena.stored p.arena.watched p.arena.vars p.trail.vars p.head p.trail.entries entry p.refuted done (omega (arith, c.in-Some.ensures, c.level.ensures)) c.self.invariant))
