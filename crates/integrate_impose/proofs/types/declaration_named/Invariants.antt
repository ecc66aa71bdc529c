use Rattle.std.proofs.Common.{◌≡◌, drop, find}
use Rattle.std.specs.Str.{bytes_eq}
use Rattle.integrate_impose.proofs.types.declaration_named.Given as goal

abbrev pub invariant-loop-declaration : goal.invariant-loop-declaration
invariant-loop-declaration l = find (λ d. bytes_eq d.name l.name) l.declarations ≡ find (λ d. bytes_eq d.name l.name) (drop l.declaration-index l.declarations)
