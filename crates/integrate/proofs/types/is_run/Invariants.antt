use Rattle.std.proofs.Common.{◌≡◌, drop, map, pos, ◌+ℤ◌}
use Rattle.smv_meaning.specs.declared.value.Value.TheVariants as value
use Rattle.smv_meaning.specs.Value.{between}
use Rattle.integrate.specs.EqualTypes.{equal_lists}
use Rattle.integrate.proofs.types.is_run.Given as goal

abbrev pub invariant-loop-i : goal.invariant-loop-i
invariant-loop-i l = equal_lists (between (l.low +ℤ pos l.i) l.high) (map (λ n. value.Number n) (drop l.i l.numbers)) ≡ equal_lists (between l.low l.high) (map (λ n. value.Number n) l.numbers)
