use Rattle.std.proofs.Common.{◌≡◌, [], ◌∷◌, length}
use Rattle.smv_expr.specs.declared.kind.Kind.TheVariants as k
use Rattle.smv_expr.specs.Reading.{read_fold}
use Rattle.feature_parse.specs.Grammar.{with_conditional}
use Rattle.smv_parse.specs.Readers.{the_limit}
use Rattle.feature_parse.specs.Readers.{read_conditional, read_more_conditional}
use Rattle.feature_parse.proofs.changes.more_conditional.Given as goal

abbrev pub invariant-rounds : goal.invariant-rounds
invariant-rounds l = read_more_conditional the_limit l.fn.first l.fn.tokens ≡ read_fold (k.If ∷ []) (read_conditional the_limit) with_conditional l.found l.tokens

abbrev pub decreases-rounds : goal.decreases-rounds
decreases-rounds l = length l.tokens
