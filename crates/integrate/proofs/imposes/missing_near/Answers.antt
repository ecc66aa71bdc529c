use Rattle.std.proofs.Common.{◌≡◌, IfOk, subst}
use Rattle.smv_ast.specs.declared.program.Program.{Program}
use Rattle.integrate.specs.UsedNames.{missing_in_module}
use Rattle.integrate.proofs.imposes.missing_near.Goals as goal

pub returns-then-is : goal.returns-then-is
returns-then-is c = subst (λ (p : Program). IfOk c.missing_in_scope.result (λ found. found ≡ missing_in_module p c.args.change.now)) c.requires.program c.missing_in_scope.ensures
