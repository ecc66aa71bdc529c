use Rattle.std.proofs.Common.{◌≡◌, ℕ, List, length, subst, sym, ap, ◌∙◌, arith}
use Rattle.std.specs.Prelude.{IsSome}
use Rattle.sat_arena.specs.declared.trail.Assigned.{Assigned}
use Rattle.sat_analyze.specs.declared.walk.Keeping.TheVariants.{Decisions}
use Rattle.sat_analyze.specs.Walked.{IsWalk, KeepsMore}
use Rattle.sat_analyze.proofs.WalkLemmas.{has_reason, reason_positions}
use Rattle.sat_analyze.proofs.FinalLemmas.{false_by, read_at, has_some_reason, begin_final, final_is}
use Rattle.sat_analyze.proofs.learnt.Analyzer.final_clause.Goals as goal

pub position_of-from-requires : goal.position_of-from-requires
position_of-from-requires c = (false_by c.args.trail.now.entries c.positions-positions.result.now c.args.lit c.positions-positions.ensures c.requires.false_there).1.within

pub bounds-entries-from : goal.bounds-entries-from
bounds-entries-from c =
    let at = (false_by c.args.trail.now.entries c.positions-positions.result.now c.args.lit c.positions-positions.ensures c.requires.false_there).1.stands in
    omega (arith, at.0, ap length c.entries-entries.ensures.same, c.position_of-from.ensures.position)

pub bounds-entries-from-in_ok-walk : goal.bounds-entries-from-in_ok-walk
bounds-entries-from-in_ok-walk c =
    let at = (false_by c.args.trail.now.entries c.positions-positions.result.now c.args.lit c.positions-positions.ensures c.requires.false_there).1.stands in
    omega (arith, at.0, ap length c.entries-entries.ensures.same, c.position_of-from.ensures.position)

pub unwrap-reason-requires : goal.unwrap-reason-requires
unwrap-reason-requires c =
    let read = read_at c.args.trail.now.entries c.entries-entries.result.now c.positions-positions.result.now c.args.lit c.position_of-from.result c.index-entries-from.result c.entries-entries.ensures.same c.positions-positions.ensures c.requires.false_there c.position_of-from.ensures.position c.index-entries-from.is in
    subst (λ (e : Assigned). IsSome e.reason) c.index-entries-from.is (has_some_reason c.args.trail.now.entries c.args.lit c.position_of-from.result c.index-entries-from.result read c.requires.undecided)

pub meet-requires-clause-within : goal.meet-requires-clause-within
meet-requires-clause-within c =
    let read = read_at c.args.trail.now.entries c.entries-entries.result.now c.positions-positions.result.now c.args.lit c.position_of-from.result c.index-entries-from.result c.entries-entries.ensures.same c.positions-positions.ensures c.requires.false_there c.position_of-from.ensures.position c.index-entries-from.is in
    let has = has_reason c.args.arena.now.stored c.args.trail.now.entries c.position_of-from.result c.index-entries-from.result c.unwrap-reason.result c.requires.justified read.stands (ap (λ e. e.reason) c.index-entries-from.is ∙ c.unwrap-reason.ensures) in
    has.within

pub meet-requires-clause-positioned : goal.meet-requires-clause-positioned
meet-requires-clause-positioned c =
    let read = read_at c.args.trail.now.entries c.entries-entries.result.now c.positions-positions.result.now c.args.lit c.position_of-from.result c.index-entries-from.result c.entries-entries.ensures.same c.positions-positions.ensures c.requires.false_there c.position_of-from.ensures.position c.index-entries-from.is in
    let has = has_reason c.args.arena.now.stored c.args.trail.now.entries c.position_of-from.result c.index-entries-from.result c.unwrap-reason.result c.requires.justified read.stands (ap (λ e. e.reason) c.index-entries-from.is ∙ c.unwrap-reason.ensures) in
    reason_positions c.args.arena.now.stored c.args.trail.now.entries c.positions-positions.result.now c.positions-positions.ensures c.position_of-from.result c.index-entries-from.result c.unwrap-reason.result c.in_ok-walk.walk.marks c.in_ok-walk.ensures.marks read.stands has

pub keep_marked-requires-clause-walk : goal.keep_marked-requires-clause-walk
keep_marked-requires-clause-walk c =
    let read = read_at c.args.trail.now.entries c.entries-entries.result.now c.positions-positions.result.now c.args.lit c.position_of-from.result c.index-entries-from.result c.entries-entries.ensures.same c.positions-positions.ensures c.requires.false_there c.position_of-from.ensures.position c.index-entries-from.is in
    let has = has_reason c.args.arena.now.stored c.args.trail.now.entries c.position_of-from.result c.index-entries-from.result c.unwrap-reason.result c.requires.justified read.stands (ap (λ e. e.reason) c.index-entries-from.is ∙ c.unwrap-reason.ensures) in
    subst (λ (es : List Assigned). IsWalk c.args.arena.now.stored es c.position_of-from.result c.keep_lit.new.self) (sym c.entries-entries.ensures.same)
    (begin_final c.args.arena.now.stored c.args.trail.now.entries c.positions-positions.result.now c.positions-positions.ensures c.args.lit c.position_of-from.result c.index-entries-from.result c.unwrap-reason.result c.in_ok-walk.walk c.meet.new.self c.keep_lit.new.self
    c.in_ok-walk.ensures read.stands read.of_literal has c.in_ok-meet.ensures c.in_ok-keep_lit.ensures).0

pub returns : goal.returns
returns c =
    let stored = c.args.arena.now.stored in
    let entries : List Assigned = c.args.trail.now.entries in
    let from : ℕ = c.position_of-from.result in
    let suffix = c.keep_marked.new.self in
    let same : c.entries-entries.result.now ≡ entries = c.entries-entries.ensures.same in
    let read = read_at c.args.trail.now.entries c.entries-entries.result.now c.positions-positions.result.now c.args.lit c.position_of-from.result c.index-entries-from.result c.entries-entries.ensures.same c.positions-positions.ensures c.requires.false_there c.position_of-from.ensures.position c.index-entries-from.is in
    let has = has_reason c.args.arena.now.stored c.args.trail.now.entries c.position_of-from.result c.index-entries-from.result c.unwrap-reason.result c.requires.justified read.stands (ap (λ e. e.reason) c.index-entries-from.is ∙ c.unwrap-reason.ensures) in
    final_is stored entries c.positions-positions.result.now c.positions-positions.ensures c.args.lit from c.index-entries-from.result c.unwrap-reason.result c.keep_lit.new.self suffix c.learnt_by.result (record {
      stands = read.stands;
      of_literal = read.of_literal;
      has = has;
      kept = (begin_final stored entries c.positions-positions.result.now c.positions-positions.ensures c.args.lit from c.index-entries-from.result c.unwrap-reason.result c.in_ok-walk.walk c.meet.new.self c.keep_lit.new.self
          c.in_ok-walk.ensures read.stands read.of_literal has c.in_ok-meet.ensures c.in_ok-keep_lit.ensures).1;
      walk = subst (λ (es : List Assigned). IsWalk stored es 0 suffix) same c.in_ok-keep_marked.ensures.walk;
      more = subst (λ (es : List Assigned). KeepsMore es Decisions from c.keep_lit.new.self.kept.items suffix) same c.in_ok-keep_marked.ensures.more;
      left = c.learnt_by.ensures;
    })
