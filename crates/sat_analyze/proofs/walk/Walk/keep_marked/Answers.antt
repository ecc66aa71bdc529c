use Rattle.std.proofs.Common.{ℕ, ◌-◌, ◌<◌, ◌≤◌, subst, refl, arith, ◌∙◌, inl}
use Rattle.sat_analyze.specs.Walked.{IsWalk}
use Rattle.sat_analyze.proofs.WalkLemmas.{IsWalk-skips}
use Rattle.sat_analyze.proofs.walk.Walk.keep_marked.Goals as goal

pub loop-position-init : goal.loop-position-init
loop-position-init c = record {
  walk = IsWalk-skips c.args.arena.now.stored c.args.entries.now c.args.from c.skip_unmarked-position.result c.args.self.now c.skip_unmarked-position.ensures.low c.skip_unmarked-position.ensures.unmarked c.requires.walk;
  more = record { stay = λ m holds. holds; added = λ m holds. inl holds; reached = λ some. absurd (omega (arith, c.requires.level)) };
  start = refl;
  apart = λ above. above;
  low = c.skip_unmarked-position.ensures.low;
}

pub loop-position-preserved : goal.loop-position-preserved
loop-position-preserved c =
    let old = c.loop-position.invariant in
    let steps = c.in_ok-step.ensures in
    record {
      walk = IsWalk-skips c.args.arena.now.stored c.args.entries.now (c.loop-position.position - 1) c.skip_unmarked-position-in-loop-position.result c.step.new.self c.skip_unmarked-position-in-loop-position.ensures.low c.skip_unmarked-position-in-loop-position.ensures.unmarked steps.walk;
      more = steps.more c.args.from c.args.self.now.kept.items (omega (arith, c.loop-position-test.true, old.low)) old.more;
      start = steps.start ∙ old.start;
      apart = λ above. steps.apart c.args.from (omega (arith, c.loop-position-test.true, old.low)) (old.apart above);
      low = omega (arith, c.skip_unmarked-position-in-loop-position.ensures.low, old.low);
    }

pub returns-clause-walk : goal.returns-clause-walk
returns-clause-walk c = subst (λ (n : ℕ). IsWalk c.args.arena.now.stored c.args.entries.now n c.loop-position.self) (omega (arith, c.loop-position-test.false)) c.loop-position.invariant.walk
