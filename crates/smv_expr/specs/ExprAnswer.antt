-- What is answered of a text that is to be one expression.
use Rattle.std.specs.Prelude.{ℕ, Bool, nat_lt, Result}
use Rattle.smv_ast.specs.declared.syntax.Expr.{Expr}
use Rattle.smv_ast.specs.declared.fault.Fault.{Fault}
use Rattle.smv_expr.specs.Lexicon.{Bytes, tokens}
use Rattle.smv_expr.specs.Reading.{Reader}
use Rattle.smv_expr.specs.Answer.{Answers, IsText}
use Rattle.smv_expr.specs.Heights.{height}
use Rattle.smv_expr.specs.Limits.{nesting_bound, the_limit}
use Rattle.smv_expr.specs.ExprGrammar.{expr}
use Rattle.smv_expr.specs.ExprReaders.{read_whole_expr}

-- its tree is no higher than a thousand
abbrev pub is_low : Expr → Bool
is_low a = nat_lt (height a) nesting_bound

-- the reader of expressions within the limits
abbrev pub limited_expr : Reader Expr
limited_expr = read_whole_expr the_limit

-- what is answered of the bytes of a file, unless memory runs out
abbrev pub ExprAnswer : ℕ → Bytes → Result Expr Fault → Type 0
ExprAnswer = Answers expr is_low limited_expr

-- the bytes of the file are this expression and no other, within the limits of numerals and nesting
abbrev pub ReadsExpr : ℕ → Bytes → Expr → Type 0
ReadsExpr file bytes a = IsText expr is_low (tokens file bytes) a
