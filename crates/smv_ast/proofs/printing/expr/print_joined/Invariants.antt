use Rattle.std.proofs.Common.{◌≡◌, ◌++◌, string_bytes, drop}
use Rattle.smv_ast.specs.PrintedExpr as spec
use Rattle.smv_ast.proofs.printing.expr.print_joined.Given as goal

abbrev pub invariant-loop-text : goal.invariant-loop-text
invariant-loop-text l = string_bytes l.out ++ spec.each_after l.separator (drop l.text-index l.remaining) ≡ string_bytes l.fn.out ++ spec.joined l.separator l.fn.texts
