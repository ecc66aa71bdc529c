use Rattle.std.proofs.Common.{◌≡◌, [], ◌∷◌, length}
use Rattle.smv_expr.specs.declared.kind.Kind.TheVariants as k
use Rattle.smv_expr.specs.Reading.{read_fold, pushed}
use Rattle.smv_expr.specs.ExprReaders.{read_dotted_names, read_dotted}
use Rattle.smv_expr.proofs.operand.dotted_names.Given as goal

abbrev pub invariant-rounds : goal.invariant-rounds
invariant-rounds l = read_dotted_names l.fn.tokens ≡ read_fold (k.Dot ∷ []) read_dotted pushed l.found l.tokens

abbrev pub decreases-rounds : goal.decreases-rounds
decreases-rounds l = length l.tokens
