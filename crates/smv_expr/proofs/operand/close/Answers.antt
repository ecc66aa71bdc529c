use Rattle.smv_expr.specs.ExprReaders.{read_close}
use Rattle.smv_expr.proofs.operand.close.Goals as goal

pub returns-then-fits : goal.returns-then-fits
unfolding read_close
returns-then-fits c = rw c.if-fits.true c.expect.ensures
