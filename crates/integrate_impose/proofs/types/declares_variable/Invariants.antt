use Rattle.std.proofs.Common.{◌≡◌, drop}
use Rattle.std.specs.List.{list_any}
use Rattle.std.specs.Str.{bytes_eq}
use Rattle.integrate_impose.proofs.types.declares_variable.Given as goal

abbrev pub invariant-loop-declaration : goal.invariant-loop-declaration
invariant-loop-declaration l = list_any (λ d. bytes_eq d.name l.name) l.declarations ≡ list_any (λ d. bytes_eq d.name l.name) (drop l.declaration-index l.declarations)
