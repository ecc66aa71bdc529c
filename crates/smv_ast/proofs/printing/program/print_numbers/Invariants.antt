use Rattle.std.proofs.Common.{◌≡◌, ◌++◌, string_bytes, codes, drop, map}
use Rattle.std.specs.Fmt.{signed_decimal}
use Rattle.smv_ast.specs.PrintedExpr as expr
use Rattle.smv_ast.proofs.printing.program.print_numbers.Given as goal

abbrev pub invariant-loop-number : goal.invariant-loop-number
invariant-loop-number l = string_bytes l.out ++ expr.each_after (codes ", ") (map signed_decimal (drop l.number-index l.remaining)) ≡ string_bytes l.fn.out ++ expr.listed (map signed_decimal l.fn.numbers)
