use Rattle.std.proofs.Common.{subst}
use Rattle.smv_ast.specs.declared.program.Program.{Program}
use Rattle.smv_meaning.specs.Faults.{ReportsFirst}
use Rattle.smv_names.specs.NamesFault.{module_fault}
use Rattle.smv_names.proofs.check.check_modules_of.Goals as goal

pub returns : goal.returns
returns c = subst (λ (p : Program). ReportsFirst (module_fault p) c.check_modules.result) c.in_ok-modules.ensures c.check_modules.ensures
