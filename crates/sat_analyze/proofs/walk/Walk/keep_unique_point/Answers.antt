use Rattle.std.proofs.Common.{◌-◌, subst, sym, arith}
use Rattle.sat_arena.specs.declared.trail.Assigned.{Assigned}
use Rattle.sat_arena.specs.Justified.{IsEntryAt}
use Rattle.sat_analyze.specs.Walked.{IsStart, KeepsLit}
use Rattle.sat_analyze.proofs.WalkLemmas.{forced_above, KeepsPoint-kept, KeepsPoint-none}
use Rattle.sat_analyze.proofs.walk.Walk.keep_unique_point.Goals as goal

pub resolve-requires-clause-forced : goal.resolve-requires-clause-forced
resolve-requires-clause-forced c =
    let old = c.loop-self.invariant in
    let walk = c.loop-self.self in
    forced_above c.args.arena.now.stored c.args.entries.now (c.loop-self.position - 1) walk.marks.start walk.marks.lowest walk.marks.seen.items c.requires.justified
    (subst (IsStart c.args.entries.now) (sym old.start) c.requires.start) old.walk.marks.lowest
    (omega (arith, c.loop-self-test.true, old.walk.within, old.walk.marks.sized)) old.walk.marks.sized (omega (arith, c.loop-self-test.true))

pub returns-in_ok-keep_lit : goal.returns-in_ok-keep_lit
returns-in_ok-keep_lit c =
    let old = c.loop-self.invariant in
    let walk = c.loop-self.self in
    let here = c.index-entries-self.result in
    let at : IsEntryAt c.args.entries.now walk.marks.lowest here = (omega (arith, c.if-self-position.true, old.walk.within), sym c.index-entries-self.is) in
    KeepsPoint-kept c.args.arena.now.stored c.args.entries.now c.args.positions.now c.requires.positions c.loop-self.position here c.args.self.now walk c.keep_lit.new.self c.requires.none
    (record { walk = old.walk; kept = old.kept; level = old.level; start = old.start; below = old.below; lower = old.lower; still = old.still })
    c.if-self-position.true c.loop-self-test.false at
    (subst (λ (e : Assigned). KeepsLit e.lit walk c.keep_lit.new.self) (sym c.index-entries-self.is) c.in_ok-keep_lit.ensures)

pub returns-else-self-position : goal.returns-else-self-position
returns-else-self-position c =
    let old = c.loop-self.invariant in
    KeepsPoint-none c.args.arena.now.stored c.args.entries.now c.loop-self.position c.args.self.now c.loop-self.self c.requires.none
    (record { walk = old.walk; kept = old.kept; level = old.level; start = old.start; below = old.below; lower = old.lower; still = old.still })
    c.if-self-position.false
