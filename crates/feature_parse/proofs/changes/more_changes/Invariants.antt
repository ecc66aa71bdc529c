use Rattle.std.proofs.Common.{◌≡◌, [], ◌∷◌, length}
use Rattle.smv_expr.specs.declared.kind.Kind.TheVariants as k
use Rattle.smv_expr.specs.Reading.{read_fold}
use Rattle.feature_parse.specs.Grammar.{with_module_changes}
use Rattle.smv_parse.specs.Readers.{the_limit}
use Rattle.feature_parse.specs.Readers.{read_module_changes, read_more_changes}
use Rattle.feature_parse.proofs.changes.more_changes.Given as goal

abbrev pub invariant-rounds : goal.invariant-rounds
invariant-rounds l = read_more_changes the_limit l.fn.tokens ≡ read_fold (k.Module ∷ []) (read_module_changes the_limit) with_module_changes l.found l.tokens

abbrev pub decreases-rounds : goal.decreases-rounds
decreases-rounds l = length l.tokens
