-- What a whole text that is to be one expression is.
use Rattle.std.proofs.Common.{◌≡◌, ℕ, Bool, true, false, [], arith}
use Rattle.std.specs.Prelude.{nat_lt, Result}
use Rattle.std.proofs.lemmas.Bool.Decides.{nat_tests}
use Rattle.smv_ast.specs.declared.syntax.Expr.{Expr}
use Rattle.smv_ast.specs.declared.fault.Fault.{Fault}
use Rattle.smv_expr.specs.Lexicon.{Bytes, tokens}
use Rattle.smv_expr.specs.Language.{Tokens}
use Rattle.smv_expr.specs.Reading.{remaining_of}
use Rattle.smv_expr.specs.Reading.Outcome.{Read}
use Rattle.smv_expr.proofs.Local.{Local}
use Rattle.smv_expr.proofs.ExprLocal.{expr_local}
use Rattle.smv_expr.specs.Answer.{Verdict, IsText, AreWithin, IsResultOf}
use Rattle.smv_expr.specs.Heights.{height}
use Rattle.smv_expr.specs.Limits.{capped, nesting_bound}
use Rattle.smv_expr.specs.Limits.Limit.{AnyHeight, Below}
use Rattle.smv_expr.specs.ExprGrammar.{expr}
use Rattle.smv_expr.specs.ExprReaders.{read_expr}
use Rattle.smv_expr.specs.ExprAnswer.{is_low, limited_expr, ExprAnswer}
use Rattle.smv_expr.proofs.Answering as answering
use Rattle.smv_expr.proofs.ExprRules.{follow_expr, expr_rules}
use Rattle.smv_expr.proofs.Limited.{Obeys, retested}
use Rattle.smv_expr.proofs.ExprLimited.{low, expr_obeys}

capped_low : (h : ℕ) → nat_lt h nesting_bound ≡ nat_lt (capped h) nesting_bound
capped_low h = grind (arith, nat_tests)

-- the reader within the limits, beside those without a limit on heights
pub limited_obeys : (any : Bool) → Obeys any is_low limited_expr (read_expr nesting_bound (AnyHeight any))
limited_obeys any = retested (low (Below nesting_bound)) is_low (λ a. capped_low (height a)) ((expr_obeys any nesting_bound).whole nesting_bound (omega arith))

pub limited_local : Local limited_expr
limited_local = (expr_local nesting_bound).whole (Below nesting_bound)

-- Every list of tokens is read as the grammar and the limits say.
pub verdict : (ts : Tokens) → Verdict expr is_low ts (limited_expr ts)
verdict = answering.verdict expr follow_expr is_low limited_expr (read_expr nesting_bound (AnyHeight false)) (read_expr nesting_bound (AnyHeight true))
    (expr_rules false nesting_bound).whole (expr_rules true nesting_bound).whole (limited_obeys false) (limited_obeys true) limited_local

-- Each text that is passed is within the limits.
pub within : (ts : Tokens) → AreWithin expr is_low ts (remaining_of (limited_expr ts))
within = answering.within expr follow_expr is_low limited_expr (read_expr nesting_bound (AnyHeight false)) (read_expr nesting_bound (AnyHeight true))
    (expr_rules false nesting_bound).whole (expr_rules true nesting_bound).whole (limited_obeys false) (limited_obeys true) limited_local

-- Each text is read.
pub complete : (ts : Tokens) (a : Expr) → IsText expr is_low ts a → limited_expr ts ≡ Read a []
complete = answering.complete expr follow_expr is_low limited_expr (read_expr nesting_bound (AnyHeight false)) (expr_rules false nesting_bound).whole (limited_obeys false)

pub answered : (file : ℕ) (bytes : Bytes) (result : Result Expr Fault) → IsResultOf file bytes (limited_expr (tokens file bytes)) result → ExprAnswer file bytes result
answered = answering.answered expr is_low limited_expr verdict within
