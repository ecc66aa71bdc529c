use Rattle.std.proofs.Common.{◌≡◌, drop}
use Rattle.smv_expr.specs.Lexicon as spec
use Rattle.smv_expr.proofs.lexeme.find_mark.Given as goal

abbrev pub invariant-loop-spelling : goal.invariant-loop-spelling
invariant-loop-spelling l = spec.find_mark (spec.spelled (drop l.spelling-index l.marks)) l.text ≡ spec.find_mark (spec.spelled l.marks) l.text
