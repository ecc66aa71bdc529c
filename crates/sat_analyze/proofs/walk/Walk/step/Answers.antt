use Rattle.std.proofs.Common.{◌<◌, ℕ, List, [], None, length, get_or, subst, sym, arith}
use Rattle.std.proofs.lemmas.Result.{on_ok_weaker}
use Rattle.std.proofs.lemmas.List.{get_or_default}
use Rattle.sat_arena.specs.declared.trail.Assigned.{Assigned}
use Rattle.sat_arena.specs.ArenaState.{clauses_of}
use Rattle.sat_arena.specs.Justified.{IsEntryAt}
use Rattle.sat_analyze.specs.Marked.{ArePositioned}
use Rattle.sat_analyze.proofs.MarkLemmas.{marked_read, unmarked_read}
use Rattle.sat_analyze.proofs.WalkLemmas.{has_reason, reason_positions, if_some, Steps-skip, Steps-met, Steps-kept}
use Rattle.sat_analyze.proofs.walk.Walk.step.Goals as goal

pub returns-then-not-index : goal.returns-then-not-index
returns-then-not-index c =
    let entries : List Assigned = c.args.entries.now in
    let within : c.args.position < length entries = omega (arith, c.requires.walk.within) in
    let other : Assigned = record { lit = 0; level = 0; reason = None } in
    let here : Assigned = get_or entries c.args.position other in
    Steps-skip c.args.arena.now.stored entries c.args.position here c.args.keeping c.args.self.now (within, get_or_default entries c.args.position here other within)
    (unmarked_read c.args.self.now.marks.seen.items c.args.position c.index.result.now (omega (arith, c.requires.walk.marks.sized)) c.index.ensures c.if-not-index.true)
    c.requires.walk

pub followed_reason-requires-clause-within : goal.followed_reason-requires-clause-within
followed_reason-requires-clause-within c =
    let at : IsEntryAt c.args.entries.now c.args.position c.index-entries-position.result = (omega (arith, c.requires.walk.within), sym c.index-entries-position.is) in
    if_some c.index-entries-position.result.reason (λ reason. reason < length c.args.arena.now.stored) (λ reason is.
    (has_reason c.args.arena.now.stored c.args.entries.now c.args.position c.index-entries-position.result reason c.requires.justified at is).within)

pub followed_reason-requires-clause-positioned : goal.followed_reason-requires-clause-positioned
followed_reason-requires-clause-positioned c =
    let at : IsEntryAt c.args.entries.now c.args.position c.index-entries-position.result = (omega (arith, c.requires.walk.within), sym c.index-entries-position.is) in
    if_some c.index-entries-position.result.reason (λ reason. ArePositioned c.args.positions.now (length c.args.entries.now) (get_or (clauses_of c.args.arena.now.stored) reason [])) (λ reason is.
    subst (λ (n : ℕ). ArePositioned c.args.positions.now n (get_or (clauses_of c.args.arena.now.stored) reason [])) c.requires.walk.marks.sized
    (reason_positions c.args.arena.now.stored c.args.entries.now c.args.positions.now c.requires.positions c.args.position c.index-entries-position.result reason c.args.self.now.marks c.requires.walk.marks at
    (has_reason c.args.arena.now.stored c.args.entries.now c.args.position c.index-entries-position.result reason c.requires.justified at is)))

pub meet-requires-clause-within : goal.meet-requires-clause-within
meet-requires-clause-within c =
    let at : IsEntryAt c.args.entries.now c.args.position c.index-entries-position.result = (omega (arith, c.requires.walk.within), sym c.index-entries-position.is) in
    (has_reason c.args.arena.now.stored c.args.entries.now c.args.position c.index-entries-position.result c.in-Some.reason c.requires.justified at c.in-Some.ensures.some).within

pub meet-requires-clause-positioned : goal.meet-requires-clause-positioned
meet-requires-clause-positioned c =
    let at : IsEntryAt c.args.entries.now c.args.position c.index-entries-position.result = (omega (arith, c.requires.walk.within), sym c.index-entries-position.is) in
    reason_positions c.args.arena.now.stored c.args.entries.now c.args.positions.now c.requires.positions c.args.position c.index-entries-position.result c.in-Some.reason c.args.self.now.marks c.requires.walk.marks at
    (has_reason c.args.arena.now.stored c.args.entries.now c.args.position c.index-entries-position.result c.in-Some.reason c.requires.justified at c.in-Some.ensures.some)

pub returns-in-Some : goal.returns-in-Some
returns-in-Some c =
    let at : IsEntryAt c.args.entries.now c.args.position c.index-entries-position.result = (omega (arith, c.requires.walk.within), sym c.index-entries-position.is) in
    on_ok_weaker c.meet.result (λ meets.
    Steps-met c.args.arena.now.stored c.args.entries.now c.args.positions.now c.requires.positions c.args.position c.index-entries-position.result c.args.keeping c.in-Some.reason c.args.self.now c.meet.new.self at
    (has_reason c.args.arena.now.stored c.args.entries.now c.args.position c.index-entries-position.result c.in-Some.reason c.requires.justified at c.in-Some.ensures.some)
    (marked_read c.args.self.now.marks.seen.items c.args.position c.index.result.now (omega (arith, c.requires.walk.marks.sized, at.0)) c.index.ensures c.if-not-index.false)
    c.requires.walk meets) c.meet.ensures

pub returns-in-None : goal.returns-in-None
returns-in-None c =
    let at : IsEntryAt c.args.entries.now c.args.position c.index-entries-position.result = (omega (arith, c.requires.walk.within), sym c.index-entries-position.is) in
    on_ok_weaker c.keep.result (λ new.
    Steps-kept c.args.arena.now.stored c.args.entries.now c.args.positions.now c.requires.positions c.args.position c.index-entries-position.result c.args.keeping c.args.self.now c.keep.new.self c.requires.justified at
    (marked_read c.args.self.now.marks.seen.items c.args.position c.index.result.now (omega (arith, c.requires.walk.marks.sized, at.0)) c.index.ensures c.if-not-index.false)
    c.in-None.ensures.decided c.in-None.ensures.root c.requires.walk new) c.keep.ensures
