-- The limit on the number of instances.
use Rattle.std.proofs.Common.{◌≡◌, ◌<◌, Bool, length, None, Some, ap, arith}
use Rattle.std.specs.Prelude.{if◌then◌else◌}
use Rattle.std.proofs.lemmas.Bool.{le-ltb}
use Rattle.smv_ast.specs.declared.fault.Fault.TheVariants as fault
use Rattle.smv_ast.specs.declared.program.Program.{Program}
use Rattle.smv_meaning.specs.Instances.{instances}
use Rattle.smv_names.specs.NamesFault.{size_fault}

pub not_large : (program : Program) → length (instances program) < 65537 → size_fault program ≡ None
not_large program h = ap (λ (b : Bool). if b then Some (fault.TooLarge None) else None) (le-ltb 65536 (length (instances program)) (omega (arith, h)))
