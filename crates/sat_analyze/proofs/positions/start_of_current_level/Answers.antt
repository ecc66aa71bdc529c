use Rattle.std.proofs.Common.{sym, ◌∙◌}
use Rattle.sat_analyze.proofs.PositionLemmas.{current_level_after}
use Rattle.sat_analyze.proofs.positions.start_of_current_level.Goals as goal

pub returns-else-entries-start : goal.returns-else-entries-start
returns-else-entries-start c = record {
  within = c.loop-start.invariant.within;
  after = c.loop-start.invariant.after;
  before = λ i e at above is.
      current_level_after c.args.entries.now c.loop-start.start c.index-entries-start.result c.requires c.if-start-gt0.true c.loop-start.invariant.within
      (λ same. c.if-entries-start.false (same ∙ sym c.level_of_last-level.ensures)) i e at is;
}
