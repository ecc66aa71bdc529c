use Rattle.std.proofs.Common.{◌≡◌, length}
use Rattle.smv_expr.specs.Reading.{read_more}
use Rattle.feature_model.specs.TextGrammar.{first_line}
use Rattle.feature_model.specs.TextReaders.{read_strict_line, read_strict_lines, with_line, is_refused}
use Rattle.feature_model.proofs.reading.lines.Given as goal

abbrev pub invariant-rounds : goal.invariant-rounds
invariant-rounds l = read_strict_lines l.fn.tokens ≡ read_more first_line is_refused (λ found. read_strict_line) with_line l.found l.tokens

abbrev pub decreases-rounds : goal.decreases-rounds
decreases-rounds l = length l.tokens
