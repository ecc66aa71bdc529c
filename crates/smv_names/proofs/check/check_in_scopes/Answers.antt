use Rattle.std.proofs.Common.{sym, ap, subst, Option}
use Rattle.std.specs.Option.{option_map}
use Rattle.smv_ast.specs.declared.fault.Fault.{Fault}
use Rattle.smv_meaning.specs.Runs.{or_else}
use Rattle.smv_meaning.specs.Faults.{ReportsFirst}
use Rattle.smv_meaning.specs.InstanceTable.{Counts}
use Rattle.smv_names.specs.Unknown.{unknown_name_fault}
use Rattle.smv_names.proofs.SizeLemmas.{not_large}
use Rattle.smv_names.proofs.check.check_in_scopes.Goals as goal

pub returns-in-Some : goal.returns-in-Some
returns-in-Some c =
    let count = subst (λ o. Counts c.args.program.now _ (option_map (λ t. t.rows) o)) c.in-Some.is c.in_ok-table.ensures.count in
    subst (λ (f : Option Fault). ReportsFirst f c.check_in_table.result) (sym (ap (λ s. or_else s (unknown_name_fault c.args.program.now)) (not_large c.args.program.now count.1))) c.check_in_table.ensures
