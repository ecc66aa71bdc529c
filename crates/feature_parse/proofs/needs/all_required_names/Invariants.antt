use Rattle.std.proofs.Common.{◌≡◌, [], ◌∷◌, length}
use Rattle.smv_expr.specs.declared.kind.Kind.TheVariants as k
use Rattle.smv_expr.specs.Reading.{read_fold}
use Rattle.feature_parse.specs.Grammar.{appended}
use Rattle.smv_parse.specs.Readers.{the_limit}
use Rattle.feature_parse.specs.Readers.{read_required_vars, read_all_required_names}
use Rattle.feature_parse.proofs.needs.all_required_names.Given as goal

abbrev pub invariant-rounds : goal.invariant-rounds
invariant-rounds l = read_all_required_names the_limit l.fn.tokens ≡ read_fold (k.Var ∷ []) (read_required_vars the_limit) appended l.found l.tokens

abbrev pub decreases-rounds : goal.decreases-rounds
decreases-rounds l = length l.tokens
