use Rattle.std.proofs.Common.{◌≡◌, ◌<◌, ℕ, List, length, subst, sym}
use Rattle.sat_arena.specs.declared.trail.Assigned.{Assigned}
use Rattle.sat_arena.specs.Justified.{current_level}
use Rattle.sat_analyze.specs.declared.walk.Keeping.TheVariants.{Needed}
use Rattle.sat_analyze.specs.Walked.{IsFresh, IsWalk, KeepsPoint, KeepsMore}
use Rattle.sat_analyze.specs.Learnt.{IsNewlyFalse}
use Rattle.sat_analyze.proofs.WalkLemmas.{met_clause}
use Rattle.sat_analyze.proofs.LearntLemmas.{conflict_positions, begin_learning}
use Rattle.sat_analyze.proofs.AssertLemmas.{learnt_is, newly_marked}
use Rattle.sat_analyze.proofs.learnt.Analyzer.learn.Goals as goal

pub meet-requires-clause-positioned : goal.meet-requires-clause-positioned
meet-requires-clause-positioned c = conflict_positions c.args.arena.now.stored c.args.trail.now.entries c.positions-positions.result.now c.positions-positions.ensures c.args.conflict c.in_ok-walk.walk c.in_ok-walk.ensures c.requires.conflict

pub keep_unique_point-requires-clause-walk : goal.keep_unique_point-requires-clause-walk
keep_unique_point-requires-clause-walk c =
    subst (λ (es : List Assigned). IsWalk c.args.arena.now.stored es (length es) c.meet.new.self) (sym c.entries-entries.ensures.same)
    (begin_learning c.args.arena.now.stored c.args.trail.now.entries c.positions-positions.result.now c.positions-positions.ensures c.args.conflict c.in_ok-walk.walk c.meet.new.self c.in_ok-walk.ensures c.requires.conflict c.in_ok-meet.ensures).0

pub returns : goal.returns
returns c =
    let stored = c.args.arena.now.stored in
    let entries : List Assigned = c.args.trail.now.entries in
    let read : List Assigned = c.entries-entries.result.now in
    let same : read ≡ entries = c.entries-entries.ensures.same in
    let fresh : IsFresh entries c.in_ok-walk.walk = c.in_ok-walk.ensures in
    let began = begin_learning stored entries c.positions-positions.result.now c.positions-positions.ensures c.args.conflict c.in_ok-walk.walk c.meet.new.self fresh c.requires.conflict c.in_ok-meet.ensures in
    let met = c.meet.new.self in
    let point = c.keep_unique_point.new.self in
    let suffix = c.keep_marked.new.self in
    let newly : 0 < current_level entries → IsNewlyFalse entries c.in_ok-meet.ensures.met.clause
    = subst (λ (clause : List ℕ). 0 < current_level entries → IsNewlyFalse entries clause) (met_clause stored c.args.conflict c.in_ok-meet.ensures.met c.in_ok-meet.ensures.within c.in_ok-meet.ensures.there) c.requires.current_level in
    learnt_is stored entries c.positions-positions.result.now c.positions-positions.ensures c.args.trail.now.vars met point suffix c.learnt_by.result (record {
      orderly = c.entries-entries.ensures.orderly;
      start = began.2;
      marked = newly_marked stored entries c.positions-positions.result.now c.positions-positions.ensures c.args.conflict c.in_ok-walk.walk met fresh c.in_ok-meet.ensures newly;
      points = subst (λ (es : List Assigned). KeepsPoint stored es met point) same c.in_ok-keep_unique_point.ensures;
      walk = subst (λ (es : List Assigned). IsWalk stored es 0 suffix) same c.in_ok-keep_marked.ensures.walk;
      more = subst (λ (es : List Assigned). KeepsMore es Needed point.marks.lowest point.kept.items suffix) same c.in_ok-keep_marked.ensures.more;
      same_start = c.in_ok-keep_marked.ensures.start;
      apart = c.in_ok-keep_marked.ensures.apart;
      left = c.learnt_by.ensures;
    })
