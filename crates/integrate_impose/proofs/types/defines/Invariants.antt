use Rattle.std.proofs.Common.{◌≡◌, drop}
use Rattle.std.specs.List.{list_any}
use Rattle.std.specs.Str.{bytes_eq}
use Rattle.integrate_impose.proofs.types.defines.Given as goal

abbrev pub invariant-loop-definition : goal.invariant-loop-definition
invariant-loop-definition l = list_any (λ d. bytes_eq d.name l.name) l.definitions ≡ list_any (λ d. bytes_eq d.name l.name) (drop l.definition-index l.definitions)
