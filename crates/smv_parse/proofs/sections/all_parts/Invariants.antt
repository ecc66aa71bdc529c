use Rattle.std.proofs.Common.{◌≡◌, length}
use Rattle.smv_expr.specs.Reading.{read_fold}
use Rattle.smv_parse.specs.Grammar.{with_part}
use Rattle.smv_parse.specs.Readers.{first_part, read_part, read_parts, the_limit}
use Rattle.smv_parse.proofs.sections.all_parts.Given as goal

abbrev pub invariant-rounds : goal.invariant-rounds
invariant-rounds l = read_parts the_limit l.fn.tokens ≡ read_fold first_part (read_part the_limit) with_part l.found l.tokens

abbrev pub decreases-rounds : goal.decreases-rounds
decreases-rounds l = length l.tokens
