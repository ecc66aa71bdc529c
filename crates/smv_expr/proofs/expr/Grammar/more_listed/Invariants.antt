use Rattle.std.proofs.Common.{◌≡◌, [], ◌∷◌, length}
use Rattle.smv_expr.specs.declared.kind.Kind.TheVariants as k
use Rattle.smv_expr.specs.Limits.Limit.{Below}
use Rattle.smv_expr.specs.Reading.{read_fold, pushed}
use Rattle.smv_expr.specs.ExprReaders.{read_expr, read_not, read_signed_expr, read_listed, read_more_listed}
use Rattle.smv_expr.proofs.expr.Grammar.more_listed.Given as goal

abbrev pub invariant-rounds : goal.invariant-rounds
invariant-rounds g l = read_more_listed (read_expr l.self.depth) (read_not l.self.depth) (read_signed_expr l.self.depth) (Below l.bound) l.fn.tokens ≡ read_fold (k.Comma ∷ []) (read_listed (read_expr l.self.depth) (read_not l.self.depth) (read_signed_expr l.self.depth) (Below l.bound)) pushed l.found l.tokens

abbrev pub decreases-rounds : goal.decreases-rounds
decreases-rounds g l = length l.tokens
