use Rattle.std.proofs.Common.{◌≡◌, take}
use Rattle.flat_model.specs.Intervals.{intervals}
use Rattle.flat_model.proofs.intervals.fill_intervals.Given as goal

abbrev pub invariant-loop-i : goal.invariant-loop-i
invariant-loop-i l = take l.i l.into ≡ intervals l.fn.flat.vars (take l.i l.fn.flat.nodes)
