use Rattle.std.proofs.Common.{◌≡◌, ◌++◌, string_bytes, codes, drop, map}
use Rattle.smv_ast.specs.PrintedExpr as spec
use Rattle.smv_ast.proofs.printing.expr.+print.Given as goal

abbrev pub invariant-print_branches-loop-branch : goal.invariant-print_branches-loop-branch
invariant-print_branches-loop-branch l = string_bytes l.out ++ spec.concatenated (map spec.printed_branch (drop l.branch-index l.branches)) ≡ string_bytes l.fn.out ++ spec.concatenated (map spec.printed_branch l.branches)

abbrev pub invariant-print_listed-loop-part : goal.invariant-print_listed-loop-part
invariant-print_listed-loop-part l = string_bytes l.out ++ spec.each_after (codes ", ") (spec.texts (map spec.piece_of (drop l.part-index l.remaining))) ≡ string_bytes l.fn.out ++ spec.listed (spec.texts (map spec.piece_of l.fn.parts))
