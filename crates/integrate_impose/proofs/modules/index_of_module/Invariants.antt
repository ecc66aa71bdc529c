use Rattle.std.proofs.Common.{◌≡◌, ◌+◌, drop}
use Rattle.std.specs.Option.{option_map}
use Rattle.integrate_impose.specs.Lists.{first_index}
use Rattle.integrate_impose.specs.Impose as spec
use Rattle.integrate_impose.proofs.modules.index_of_module.Given as goal

abbrev pub invariant-loop-i : goal.invariant-loop-i
invariant-loop-i l = first_index (spec.is_named l.called) l.modules ≡ option_map (λ k. k + l.i) (first_index (spec.is_named l.called) (drop l.i l.modules))
