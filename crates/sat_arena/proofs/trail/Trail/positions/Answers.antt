use Rattle.std.proofs.Common.{List, ℕ, ap, sym, subst}
use Rattle.sat_arena.specs.declared.trail.Assigned.{Assigned}
use Rattle.sat_arena.specs.Justified.{HasPositions}
use Rattle.sat_arena.proofs.TrailLemmas.{has_positions}
use Rattle.sat_arena.proofs.trail.Trail.positions.Goals as goal

pub returns : goal.returns
returns c =
    let t = c.self.inside in
    subst (λ (es : List Assigned). HasPositions es c.deref.result.now) (ap (λ s. s.entries) c.self.view_is)
    (subst (λ (ps : List ℕ). HasPositions t.entries.items ps) (sym c.deref.ensures.value)
    (has_positions t.entries.items t.truth.items t.positions.items t.vars _ c.self.invariant))
