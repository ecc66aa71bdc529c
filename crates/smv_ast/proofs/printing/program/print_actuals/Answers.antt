use Rattle.std.proofs.Common.{◌<◌, length, arith, rules}
use Rattle.std.proofs.lemmas.Bool.Decides.{nat_tests}
use Rattle.std.proofs.lemmas.Grind.{common_steps}
use Rattle.smv_ast.proofs.PrintingLemmas.{some_actuals}
use Rattle.smv_ast.proofs.printing.program.print_actuals.Goals as goal

pub returns : goal.returns
returns c =
    let some : 0 < length c.args.actuals.now = grind (arith, nat_tests) in
    rw (some_actuals c.args.actuals.now some) (first_of (search rules, grind (arith, common_steps)))
