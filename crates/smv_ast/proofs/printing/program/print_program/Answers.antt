use Rattle.std.proofs.Common.{◌≡◌, ◌∙◌, string_bytes, rules, arith}
use Rattle.std.proofs.lemmas.Grind.{common_steps}
use Rattle.smv_ast.specs.PrintedProgram.{printed_program}
use Rattle.smv_ast.proofs.SpanLemmas.{printed_same}
use Rattle.smv_ast.proofs.printing.program.print_program.Goals as goal

pub returns-clause-ignoring_spans : goal.returns-clause-ignoring_spans
returns-clause-ignoring_spans c =
    let text : string_bytes c.print_modules.new.out ≡ printed_program c.args.program.now = first_of (search rules, grind (arith, common_steps)) in
    λ other same. text ∙ printed_same c.args.program.now other same
