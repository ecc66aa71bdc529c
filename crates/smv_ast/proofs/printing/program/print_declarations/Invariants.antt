use Rattle.std.proofs.Common.{◌≡◌, ◌++◌, string_bytes, codes, drop, map}
use Rattle.smv_ast.specs.PrintedExpr as expr
use Rattle.smv_ast.specs.PrintedProgram as spec
use Rattle.smv_ast.proofs.printing.program.print_declarations.Given as goal

abbrev pub invariant-loop-declaration : goal.invariant-loop-declaration
invariant-loop-declaration l = string_bytes l.out ++ expr.concatenated (map spec.declaration_line (drop l.declaration-index l.declarations)) ≡ string_bytes l.fn.out ++ codes "VAR\n" ++ expr.concatenated (map spec.declaration_line l.declarations)
