use Rattle.std.proofs.Common.{◌≡◌, ◌<◌, arith, length, get_or, sym, ap, subst}
use Rattle.sat_arena.specs.declared.trail.Assigned.{Assigned}
use Rattle.sat_arena.specs.Moved.{HasTarget}
use Rattle.sat_arena.proofs.moved.move_reasons.Goals as goal

pub move_reason-requires-clause-target : goal.move_reason-requires-clause-target
move_reason-requires-clause-target c d =
    subst (HasTarget c.args.arena.now) (sym (c.loop-at.invariant.waiting c.loop-at.at d (omega arith)))
    (c.requires c.loop-at.at d (omega (arith, c.loop-at-test.true, ap length c.entries-at-end.ensures.same)))
