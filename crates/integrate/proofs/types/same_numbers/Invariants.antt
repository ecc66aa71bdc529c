use Rattle.std.proofs.Common.{◌≡◌, drop, map}
use Rattle.smv_meaning.specs.declared.value.Value.TheVariants as value
use Rattle.integrate.specs.EqualTypes.{equal_lists}
use Rattle.integrate.proofs.types.same_numbers.Given as goal

abbrev pub invariant-loop-i : goal.invariant-loop-i
invariant-loop-i l = equal_lists (map (λ v. value.Number v) (drop l.i l.a)) (map (λ v. value.Number v) (drop l.i l.b)) ≡ equal_lists (map (λ v. value.Number v) l.a) (map (λ v. value.Number v) l.b)
