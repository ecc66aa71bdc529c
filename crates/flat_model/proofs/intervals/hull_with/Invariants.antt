use Rattle.std.proofs.Common.{◌≡◌, take}
use Rattle.std.specs.List.{fold}
use Rattle.flat_model.specs.Intervals.{hull, alone}
use Rattle.flat_model.proofs.intervals.hull_with.Given as goal

abbrev pub invariant-loop-number : goal.invariant-loop-number
invariant-loop-number l = l.held ≡ fold (λ held n. hull held (alone n)) l.fn.first (take l.number-index l.numbers)
