use Rattle.std.proofs.Common.{◌≡◌, ◌+◌, ◌++◌, length, map, reverse}
use Rattle.integrate_treat.specs.TreatedModel as spec
use Rattle.integrate_treat.proofs.sections.treat_sections.Given as goal

abbrev pub invariant-loop-round : goal.invariant-loop-round
invariant-loop-round l = (map (spec.treated_section l.t) l.fn.sections ≡ l.treated ++ map (spec.treated_section l.t) (reverse l.waiting)) × (length l.waiting + l._round ≡ l._round-end)
