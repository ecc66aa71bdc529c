use Rattle.std.proofs.Common.{sym, ◌∙◌}
use Rattle.sat_arena.proofs.LevelLemmas.{up_to-prefix}
use Rattle.sat_arena.proofs.trail.count_up_to.Goals as goal

pub returns-else-entries-kept-clause-kept : goal.returns-else-entries-kept-clause-kept
returns-else-entries-kept-clause-kept c =
    sym (up_to-prefix c.args.level c.args.entries.now c.loop-kept.kept c.index-entries-kept.result c.requires.rising c.loop-kept-test.true c.loop-kept.invariant.within c.if-entries-kept.false)
    ∙ c.loop-kept.invariant.kept
