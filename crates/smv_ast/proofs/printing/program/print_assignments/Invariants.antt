use Rattle.std.proofs.Common.{◌≡◌, ◌++◌, string_bytes, codes, drop, map}
use Rattle.smv_ast.specs.PrintedExpr as expr
use Rattle.smv_ast.specs.PrintedProgram as spec
use Rattle.smv_ast.proofs.printing.program.print_assignments.Given as goal

abbrev pub invariant-loop-assignment : goal.invariant-loop-assignment
invariant-loop-assignment l = string_bytes l.out ++ expr.concatenated (map spec.assignment_line (drop l.assignment-index l.assignments)) ≡ string_bytes l.fn.out ++ codes "ASSIGN\n" ++ expr.concatenated (map spec.assignment_line l.assignments)
