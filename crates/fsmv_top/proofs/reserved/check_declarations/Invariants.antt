use Rattle.std.proofs.Common.{◌≡◌, drop}
use Rattle.smv_meaning.specs.Runs.{first_fault}
use Rattle.fsmv_top.specs.ReservedNames.{reserved_in_declaration}
use Rattle.fsmv_top.proofs.reserved.check_declarations.Given as goal

abbrev pub invariant-loop-declaration : goal.invariant-loop-declaration
invariant-loop-declaration l = first_fault reserved_in_declaration (drop l.declaration-index l.declarations) ≡ first_fault reserved_in_declaration l.declarations
