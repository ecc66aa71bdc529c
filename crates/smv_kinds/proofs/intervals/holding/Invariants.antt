use Rattle.std.proofs.Common.{◌≡◌, drop}
use Rattle.std.specs.List.{fold}
use Rattle.smv_kinds.specs.Intervals.{alone, hull, holding}
use Rattle.smv_kinds.proofs.intervals.holding.Given as goal

abbrev pub invariant-loop-n : goal.invariant-loop-n
invariant-loop-n l = fold (λ i n. hull i (alone n)) l.interval (drop l.n-index l.numbers) ≡ holding l.numbers
