use Rattle.std.proofs.Common.{◌≡◌, drop}
use Rattle.std.specs.List.{list_any}
use Rattle.std.specs.Str.{bytes_eq}
use Rattle.integrate_impose.proofs.types.is_formal.Given as goal

abbrev pub invariant-loop-formal : goal.invariant-loop-formal
invariant-loop-formal l = list_any (λ formal. bytes_eq formal l.name) l.formals ≡ list_any (λ formal. bytes_eq formal l.name) (drop l.formal-index l.formals)
