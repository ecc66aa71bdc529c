use Rattle.std.proofs.Common.{◌≡◌, ◌+◌, ◌++◌, length, map, reverse}
use Rattle.integrate_treat.specs.TreatedModel as spec
use Rattle.integrate_treat.proofs.sections.treat_assignments.Given as goal

abbrev pub invariant-loop-round : goal.invariant-loop-round
invariant-loop-round l = (map (spec.treated_assignment l.t) l.fn.assignments ≡ l.treated ++ map (spec.treated_assignment l.t) (reverse l.waiting)) × (length l.waiting + l._round ≡ l._round-end)
