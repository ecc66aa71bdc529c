use Rattle.std.proofs.Common.{◌≡◌, ◌++◌, string_bytes, drop, map}
use Rattle.smv_ast.specs.PrintedExpr as expr
use Rattle.smv_ast.specs.PrintedProgram as spec
use Rattle.smv_ast.proofs.printing.program.print_sections.Given as goal

abbrev pub invariant-loop-section : goal.invariant-loop-section
invariant-loop-section l = string_bytes l.out ++ expr.concatenated (map spec.printed_section (drop l.section-index l.sections)) ≡ string_bytes l.fn.out ++ expr.concatenated (map spec.printed_section l.sections)
