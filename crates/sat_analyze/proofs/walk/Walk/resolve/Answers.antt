use Rattle.std.proofs.Common.{◌<◌, List, None, length, get_or, sym, ap, ◌∙◌, arith}
use Rattle.std.proofs.lemmas.Result.{on_ok_weaker}
use Rattle.std.proofs.lemmas.List.{get_or_default}
use Rattle.sat_arena.specs.declared.trail.Assigned.{Assigned}
use Rattle.sat_arena.specs.Justified.{IsEntryAt}
use Rattle.sat_analyze.proofs.MarkLemmas.{unmarked_read}
use Rattle.sat_analyze.proofs.WalkLemmas.{has_reason, reason_positions, Resolves-skip, Resolves-met}
use Rattle.sat_analyze.proofs.walk.Walk.resolve.Goals as goal

pub returns-then-not-index : goal.returns-then-not-index
returns-then-not-index c =
    let entries : List Assigned = c.args.entries.now in
    let within : c.args.position < length entries = omega (arith, c.requires.walk.within) in
    let other : Assigned = record { lit = 0; level = 0; reason = None } in
    let here : Assigned = get_or entries c.args.position other in
    Resolves-skip c.args.arena.now.stored entries c.args.position here c.args.self.now (within, get_or_default entries c.args.position here other within)
    (unmarked_read c.args.self.now.marks.seen.items c.args.position c.index.result.now (omega (arith, c.requires.walk.marks.sized)) c.index.ensures c.if-not-index.true)
    c.requires.walk

pub meet-requires-clause-within : goal.meet-requires-clause-within
meet-requires-clause-within c =
    (has_reason c.args.arena.now.stored c.args.entries.now c.args.position c.index-entries-position.result c.unwrap-reason.result c.requires.justified (omega (arith, c.requires.walk.within), sym c.index-entries-position.is) (ap (λ e. e.reason) c.index-entries-position.is ∙ c.unwrap-reason.ensures)).within

pub meet-requires-clause-positioned : goal.meet-requires-clause-positioned
meet-requires-clause-positioned c =
    let at : IsEntryAt c.args.entries.now c.args.position c.index-entries-position.result = (omega (arith, c.requires.walk.within), sym c.index-entries-position.is) in
    reason_positions c.args.arena.now.stored c.args.entries.now c.args.positions.now c.requires.positions c.args.position c.index-entries-position.result c.unwrap-reason.result c.args.self.now.marks c.requires.walk.marks at
    (has_reason c.args.arena.now.stored c.args.entries.now c.args.position c.index-entries-position.result c.unwrap-reason.result c.requires.justified at (ap (λ e. e.reason) c.index-entries-position.is ∙ c.unwrap-reason.ensures))

pub returns : goal.returns
returns c =
    let at : IsEntryAt c.args.entries.now c.args.position c.index-entries-position.result = (omega (arith, c.requires.walk.within), sym c.index-entries-position.is) in
    on_ok_weaker c.meet.result (λ meets.
    Resolves-met c.args.arena.now.stored c.args.entries.now c.args.positions.now c.requires.positions c.args.position c.index-entries-position.result c.unwrap-reason.result c.args.self.now c.meet.new.self at
    (has_reason c.args.arena.now.stored c.args.entries.now c.args.position c.index-entries-position.result c.unwrap-reason.result c.requires.justified at (ap (λ e. e.reason) c.index-entries-position.is ∙ c.unwrap-reason.ensures))
    c.requires.walk meets) c.meet.ensures
