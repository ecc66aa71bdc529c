use Rattle.std.proofs.Common.{◌≡◌, length}
use Rattle.smv_expr.specs.Reading.{read_fold, pushed}
use Rattle.smv_parse.specs.Readers.{the_limit}
use Rattle.feature_parse.specs.Readers.{first_action, read_action, read_more_actions}
use Rattle.feature_parse.proofs.changes.more_actions.Given as goal

abbrev pub invariant-rounds : goal.invariant-rounds
invariant-rounds l = read_more_actions the_limit l.fn.tokens ≡ read_fold first_action (read_action the_limit) pushed l.found l.tokens

abbrev pub decreases-rounds : goal.decreases-rounds
decreases-rounds l = length l.tokens
