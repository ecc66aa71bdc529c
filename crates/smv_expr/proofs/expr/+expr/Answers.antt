use Rattle.std.proofs.Common.{◌≡◌, ℕ, zero, false, refl, subst, arith}
use Rattle.smv_expr.specs.declared.expr.Level.{Level}
use Rattle.smv_expr.specs.declared.expr.Level.TheVariants.{Whole, Negated, Signed}
use Rattle.smv_expr.specs.Language.{Tokens}
use Rattle.smv_expr.specs.Limits.Limit.{Below}
use Rattle.smv_expr.specs.Reading.{Gives}
use Rattle.smv_expr.specs.ExprReaders.{read_expr, read_not, read_signed_expr, read_too_deep}
use Rattle.smv_expr.specs.Nests.{read_level, first_of}
use Rattle.smv_expr.proofs.Rounds.{deeper}
use Rattle.smv_expr.proofs.expr.+expr.Goals as goal

-- where no construct may be opened, nothing is read
stops : (level : Level) (bound : ℕ) (ts : Tokens) → read_too_deep false (first_of level) ts ≡ read_level zero level (Below bound) ts
unfolding read_expr
stops Whole bound ts = refl
stops Negated bound ts = refl
stops Signed bound ts = refl

pub returns-then-depth-eq0 : goal.returns-then-depth-eq0
returns-then-depth-eq0 t c = let none : zero ≡ c.args.depth = omega arith in
    subst (λ (n : ℕ). Gives (read_level n c.args.level (Below c.args.bound) c.args.tokens.now) c.too_deep.result c.too_deep.new.tokens) none (rw (← stops c.args.level c.args.bound c.args.tokens.now) c.too_deep.ensures)

pub returns-in-Whole : goal.returns-in-Whole
unfolding read_expr
returns-in-Whole t c = rw (c.in-Whole.is, deeper (λ n. read_expr n (Below c.args.bound) c.args.tokens.now) c.args.depth (omega arith)) c.whole.ensures

pub returns-in-Negated : goal.returns-in-Negated
unfolding read_expr
returns-in-Negated t c = rw (c.in-Negated.is, deeper (λ n. read_not n (Below c.args.bound) c.args.tokens.now) c.args.depth (omega arith)) c.not_level.ensures

pub returns-in-Signed : goal.returns-in-Signed
unfolding read_expr
returns-in-Signed t c = rw (c.in-Signed.is, deeper (λ n. read_signed_expr n (Below c.args.bound) c.args.tokens.now) c.args.depth (omega arith)) c.negatable.ensures
