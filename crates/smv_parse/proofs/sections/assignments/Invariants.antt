use Rattle.std.proofs.Common.{◌≡◌, length}
use Rattle.smv_expr.specs.Reading.{read_fold, pushed}
use Rattle.smv_parse.specs.Readers.{read_assignment, read_assignments, the_limit, first_side}
use Rattle.smv_parse.proofs.sections.assignments.Given as goal

abbrev pub invariant-rounds : goal.invariant-rounds
invariant-rounds l = read_assignments the_limit l.fn.tokens ≡ read_fold first_side (read_assignment the_limit) pushed l.found l.tokens

abbrev pub decreases-rounds : goal.decreases-rounds
decreases-rounds l = length l.tokens
