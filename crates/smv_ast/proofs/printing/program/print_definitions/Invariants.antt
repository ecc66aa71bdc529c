use Rattle.std.proofs.Common.{◌≡◌, ◌++◌, string_bytes, codes, drop, map}
use Rattle.smv_ast.specs.PrintedExpr as expr
use Rattle.smv_ast.specs.PrintedProgram as spec
use Rattle.smv_ast.proofs.printing.program.print_definitions.Given as goal

abbrev pub invariant-loop-definition : goal.invariant-loop-definition
invariant-loop-definition l = string_bytes l.out ++ expr.concatenated (map spec.definition_line (drop l.definition-index l.definitions)) ≡ string_bytes l.fn.out ++ codes "DEFINE\n" ++ expr.concatenated (map spec.definition_line l.definitions)
