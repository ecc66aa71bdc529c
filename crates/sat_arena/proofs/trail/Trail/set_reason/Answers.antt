use Rattle.std.proofs.Common.{◌≡◌, ◌<◌, List, length, ap, sym, subst}
use Rattle.sat_arena.specs.declared.trail.Assigned.{Assigned}
use Rattle.sat_arena.proofs.AlikeLemmas.{AreAlike-reason, KeepsTogether-alike}
use Rattle.sat_arena.proofs.trail.Trail.set_reason.Goals as goal

pub invariant_of-self : goal.invariant_of-self
invariant_of-self c =
    let t = c.self.inside in
    let inside : c.args.entry < length t.entries.items = subst (λ (es : List Assigned). c.args.entry < length es) (sym (ap (λ s. s.entries) c.self.view_is)) c.requires in
    KeepsTogether-alike t.entries.items _ t.truth.items t.positions.items t.vars _
    (AreAlike-reason t.entries.items c.args.entry c.args.reason c.index_mut-changed.result.now inside c.index_mut-changed.ensures.value) c.self.invariant
