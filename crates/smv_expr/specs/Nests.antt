-- A function value that reads expressions, within fewer open constructs.
use Rattle.std.specs.Prelude.{ℕ, ◌≤◌, List, Result}
use Rattle.std.specs.declared.alloc.Global.{Global}
use denote.Ref.{MutBor}
use Rattle.smv_ast.specs.declared.syntax.Expr.{Expr}
use Rattle.smv_expr.specs.declared.error.ReadError.{ReadError}
use Rattle.smv_expr.specs.declared.kind.Kind.{Kind}
use Rattle.smv_expr.specs.declared.expr.Level.{Level}
use Rattle.smv_expr.specs.declared.expr.Level.TheVariants.{Whole, Negated, Signed}
use Rattle.smv_expr.specs.Language.{Tokens}
use Rattle.smv_expr.specs.Reading.{Reader, Gives}
use Rattle.smv_expr.specs.Limits.{Limit, nesting_bound}
use Rattle.smv_expr.specs.Limits.Limit.{Below}
use Rattle.smv_expr.specs.ExprReaders.{first_expr, first_unary, read_expr, read_not, read_signed_expr}

-- the reader of the expressions that stand at a level
abbrev pub read_level : ℕ → Level → Limit → Reader Expr
read_level depth Whole = read_expr depth
read_level depth Negated = read_not depth
read_level depth Signed = read_signed_expr depth

-- what an expression at the level may begin with
abbrev pub first_of : Level → List Kind
first_of Whole = first_expr
first_of Negated = first_expr
first_of Signed = first_unary

-- a part of an expression, of which each part has fewer than so many constructs open
abbrev pub at_depth : {X : Type 0}
    → ((Limit → Reader Expr) → (Limit → Reader Expr) → (Limit → Reader Expr) → X) → ℕ → X
at_depth part depth = part (read_expr depth) (read_not depth) (read_signed_expr depth)

-- The function may be called, and reads what the specification reads.
pub record Nests (depth : ℕ) (pre : Global → MutBor Tokens → ℕ → ℕ → Level → Type 0)
    (post : Global → MutBor Tokens → ℕ → ℕ → Level → Result Expr ReadError → MutBor Tokens → Type 0) : Type 0 where
  pub callable : (alloc : Global) (old : MutBor Tokens) (bound : ℕ) (level : Level)
      → bound ≤ nesting_bound → pre alloc old depth bound level
  pub gives : (alloc : Global) (old new : MutBor Tokens) (bound : ℕ) (level : Level)
      (r : Result Expr ReadError) → post alloc old depth bound level r new
      → Gives (read_level depth level (Below bound) old.now) r new.now
