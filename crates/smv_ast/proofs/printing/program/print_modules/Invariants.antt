use Rattle.std.proofs.Common.{◌≡◌, ◌++◌, string_bytes, drop, map}
use Rattle.smv_ast.specs.PrintedExpr as expr
use Rattle.smv_ast.specs.PrintedProgram as spec
use Rattle.smv_ast.proofs.printing.program.print_modules.Given as goal

abbrev pub invariant-loop-module : goal.invariant-loop-module
invariant-loop-module l = string_bytes l.out ++ expr.concatenated (map spec.printed_module (drop l.module-index l.modules)) ≡ string_bytes l.fn.out ++ expr.concatenated (map spec.printed_module l.modules)
