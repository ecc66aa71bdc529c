use Rattle.std.proofs.Common.{◌≡◌, min, length, List, ℕ, subst, sym, ap, ◌∙◌}
use Rattle.sat_arena.specs.declared.trail.Assigned.{Assigned}
use Rattle.sat_arena.specs.Trails.{up_to}
use Rattle.sat_arena.specs.TrailState.{TrailState}
use Rattle.sat_arena.specs.PropagatorState.{IsPropagator}
use Rattle.sat_arena.proofs.PropagatorLemmas.{IsPropagator-back}
use Rattle.sat_arena.proofs.propagator.Propagator.back.Goals as goal

pub invariant_of-self : goal.invariant_of-self
invariant_of-self c =
    let p = c.self.inside in
    let entries : c.back.new.self.entries ≡ up_to c.args.level p.trail.entries = ap (λ (t : TrailState). t.entries) c.back.ensures in
    let vars : c.back.new.self.vars ≡ p.trail.vars = ap (λ (t : TrailState). t.vars) c.back.ensures in
    let head : c.min-self-inside.result ≡ min p.head (length (up_to c.args.level p.trail.entries)) = c.min-self-inside.ensures ∙ ap (λ (es : List Assigned). min p.head (length es)) (c.entries.ensures.same ∙ entries) in
    subst (λ (n : ℕ). IsPropagator p.arena.stored p.arena.watched p.arena.vars c.back.new.self.entries c.back.new.self.vars n p.refuted) (sym head)
    (subst (λ (n : ℕ). IsPropagator p.arena.stored p.arena.watched p.arena.vars c.back.new.self.entries n (min p.head (length (up_to c.args.level p.trail.entries))) p.refuted) (sym vars)
    (subst (λ (es : List Assigned). IsPropagator p.arena.stored p.arena.watched p.arena.vars es p.trail.vars (min p.head (length (up_to c.args.level p.trail.entries))) p.refuted) (sym entries)
    (IsPropagator-back p.arena.stored p.arena.watched p.arena.vars p.trail.vars c.args.level p.head p.trail.entries p.refuted c.entries-entries.ensures.orderly.rising c.self.invariant)))
