use Rattle.std.proofs.Common.{◌≡◌, ◌≤◌, ◌+◌, Bool, List, subst, sym, ◌∙◌, arith, length}
use Rattle.std.specs.Prelude.{vec_capacity, vec_len}
use Rattle.sat_arena.specs.declared.trail.Assigned.{Assigned}
use Rattle.sat_arena.specs.Trails.{KeepsTogether}
use Rattle.sat_arena.proofs.TrailLemmas.{KeepsTogether-grow, KeepsTogether-positions, KeepsTogether-capacity}
use Rattle.sat_arena.proofs.trail.Trail.grow.Goals as goal

pub invariant_of-self-in_err-resize-2 : goal.invariant_of-self-in_err-resize-2
invariant_of-self-in_err-resize-2 c =
    let t = c.self.inside in
    let long : length c.resize.new.self.items ≡ c.args.vars + 1 = sym c.resize.new.self.ok.0 ∙ c.in_ok-resize.ensures.len in
    let wide = KeepsTogether-positions t.entries.items t.truth.items t.positions.items c.resize.new.self.items t.vars (vec_capacity t.entries) (c.args.vars + 1) _ c.self.invariant c.in_ok-resize.ensures.items long (omega arith) in
    subst (λ (es : List Assigned). KeepsTogether es c.resize-2.new.self.items c.resize.new.self.items t.vars (vec_capacity c.reserve.new.self)) (sym c.reserve.ensures.items)
    (subst (λ (ts : List Bool). KeepsTogether t.entries.items ts c.resize.new.self.items t.vars (vec_capacity c.reserve.new.self)) (sym c.in_err-resize-2.ensures.items)
    (KeepsTogether-capacity t.entries.items t.truth.items c.resize.new.self.items t.vars (vec_capacity t.entries) (vec_capacity c.reserve.new.self) wide (omega (arith, c.reserve.ensures.capacity))))

pub invariant_of-self-2 : goal.invariant_of-self-2
invariant_of-self-2 c =
    let reserved : vec_len c.self.inside.entries + (c.args.vars + 1) ≤ vec_capacity c.reserve.new.self = omega (arith, c.in_ok-reserve.ensures.ok, c.reserve.ensures.len) in
    let long : length c.resize.new.self.items ≡ c.args.vars + 1 = sym c.resize.new.self.ok.0 ∙ c.in_ok-resize.ensures.len in
    let wide = KeepsTogether-positions c.self.inside.entries.items c.self.inside.truth.items c.self.inside.positions.items c.resize.new.self.items c.self.inside.vars (vec_capacity c.self.inside.entries) (c.args.vars + 1) _ c.self.invariant c.in_ok-resize.ensures.items long (omega arith) in
    subst (λ (es : List Assigned). KeepsTogether es c.resize-2.new.self.items c.resize.new.self.items c.args.vars (vec_capacity c.reserve.new.self)) (sym c.reserve.ensures.items)
    (KeepsTogether-grow c.self.inside.entries.items c.self.inside.truth.items c.resize-2.new.self.items c.resize.new.self.items c.self.inside.vars c.args.vars (vec_capacity c.self.inside.entries) (vec_capacity c.reserve.new.self) _
    wide (omega arith) c.in_ok-resize-2.ensures.items (sym c.resize-2.new.self.ok.0 ∙ c.in_ok-resize-2.ensures.len) (omega arith) (omega arith))
