use Rattle.std.proofs.Common.{◌≡◌, length}
use Rattle.smv_expr.specs.Heights.{height}
use Rattle.smv_expr.specs.Limits.{beside}
use Rattle.smv_expr.specs.Limits.Limit.{Below}
use Rattle.smv_expr.specs.Language.{kinds_of}
use Rattle.smv_expr.specs.ExprGrammar.{comparisons, is_closed, joined_operand}
use Rattle.smv_expr.specs.Reading.{read_more}
use Rattle.smv_expr.specs.ExprReaders.{read_expr, read_not, read_signed_expr, read_comparison_item, read_more_comparison}
use Rattle.smv_expr.proofs.expr.Grammar.more_comparison.Given as goal

abbrev pub invariant-rounds : goal.invariant-rounds
invariant-rounds g l = read_more_comparison (read_expr l.self.depth) (read_not l.self.depth) (read_signed_expr l.self.depth) (Below l.bound) l.fn.first l.fn.tokens ≡ read_more (kinds_of comparisons) is_closed (λ b. read_comparison_item (read_expr l.self.depth) (read_not l.self.depth) (read_signed_expr l.self.depth) (beside (height b.0) (Below l.bound))) joined_operand l.left l.tokens

abbrev pub decreases-rounds : goal.decreases-rounds
decreases-rounds g l = length l.tokens
