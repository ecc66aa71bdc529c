use Rattle.std.proofs.Common.{◌≡◌, [], ◌∷◌, length}
use Rattle.smv_expr.specs.declared.kind.Kind.TheVariants as k
use Rattle.smv_expr.specs.Reading.{read_fold}
use Rattle.feature_parse.specs.Grammar.{with_joined}
use Rattle.smv_parse.specs.Readers.{the_limit}
use Rattle.feature_parse.specs.Readers.{read_joined_module, read_more_introduced}
use Rattle.feature_parse.proofs.introduced.more_introduced.Given as goal

abbrev pub invariant-rounds : goal.invariant-rounds
invariant-rounds l = read_more_introduced the_limit l.fn.tokens ≡ read_fold (k.Module ∷ []) (read_joined_module the_limit) with_joined l.found l.tokens

abbrev pub decreases-rounds : goal.decreases-rounds
decreases-rounds l = length l.tokens
