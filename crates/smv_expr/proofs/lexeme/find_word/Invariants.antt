use Rattle.std.proofs.Common.{◌≡◌, drop}
use Rattle.smv_expr.specs.Lexicon as spec
use Rattle.smv_expr.proofs.lexeme.find_word.Given as goal

abbrev pub invariant-loop-spelling : goal.invariant-loop-spelling
invariant-loop-spelling l = spec.find_word (spec.spelled (drop l.spelling-index l.words)) l.word ≡ spec.find_word (spec.spelled l.words) l.word
