use Rattle.std.proofs.Common.{◌≡◌, ◌<◌, Some, None, List, length, get_or, sym, ap, subst, ◌∙◌}
use Rattle.sat_arena.specs.declared.trail.Assigned.{Assigned}
use Rattle.sat_arena.specs.Moved.{HasTarget}
use Rattle.sat_arena.proofs.moved.move_reason.Goals as goal

pub reason_now-position-requires-clause-within : goal.reason_now-position-requires-clause-within
reason_now-position-requires-clause-within c =
    let e = c.index-entries-at.result in
    let at : get_or c.args.trail.now.entries c.args.at e ≡ e = sym (c.index-entries-at.is ∙ ap (λ (es : List Assigned). get_or es c.args.at e) c.entries.ensures.same) in
    (c.requires.target e c.in-Some.reason (ap (λ (x : Assigned). x.reason) at ∙ c.in-Some.is)).0
