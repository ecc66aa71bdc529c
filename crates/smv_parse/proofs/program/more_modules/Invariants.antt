use Rattle.std.proofs.Common.{◌≡◌, [], ◌∷◌, length}
use Rattle.smv_expr.specs.declared.kind.Kind.TheVariants as k
use Rattle.smv_expr.specs.Reading.{read_fold}
use Rattle.smv_parse.specs.Grammar.{with_module}
use Rattle.smv_parse.specs.Readers.{read_module, read_more_modules, the_limit}
use Rattle.smv_parse.proofs.program.more_modules.Given as goal

abbrev pub invariant-rounds : goal.invariant-rounds
invariant-rounds l = read_more_modules the_limit l.fn.first l.fn.tokens ≡ read_fold (k.Module ∷ []) (read_module the_limit) with_module l.found l.tokens

abbrev pub decreases-rounds : goal.decreases-rounds
decreases-rounds l = length l.tokens
