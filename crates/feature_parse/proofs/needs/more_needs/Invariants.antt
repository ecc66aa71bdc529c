use Rattle.std.proofs.Common.{◌≡◌, [], ◌∷◌, length}
use Rattle.smv_expr.specs.declared.kind.Kind.TheVariants as k
use Rattle.smv_expr.specs.Reading.{read_fold}
use Rattle.feature_parse.specs.Grammar.{appended}
use Rattle.smv_parse.specs.Readers.{the_limit}
use Rattle.feature_parse.specs.Readers.{read_module_needs, read_more_needs}
use Rattle.feature_parse.proofs.needs.more_needs.Given as goal

abbrev pub invariant-rounds : goal.invariant-rounds
invariant-rounds l = read_more_needs the_limit l.fn.tokens ≡ read_fold (k.Module ∷ []) (read_module_needs the_limit) appended l.found l.tokens

abbrev pub decreases-rounds : goal.decreases-rounds
decreases-rounds l = length l.tokens
