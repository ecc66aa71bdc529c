use Rattle.std.proofs.Common.{◌≡◌, ◌+◌, ◌++◌, length, map, reverse}
use Rattle.fsmv_lift.specs.GuardedFeature as spec
use Rattle.fsmv_lift.proofs.guarded.Guarding.sections.Given as goal

abbrev pub invariant-loop-round : goal.invariant-loop-round
invariant-loop-round l = (map (spec.guarded_part_section l.self.feature.now l.called) l.fn.sections ≡ l.guarded ++ map (spec.guarded_part_section l.self.feature.now l.called) (reverse l.waiting)) × (length l.waiting + l._round ≡ l._round-end)
