use Rattle.smv_expr.specs.ExprReaders.{read_first_name}
use Rattle.smv_expr.proofs.operand.first_name.Goals as goal

pub returns-then-fits : goal.returns-then-fits
unfolding read_first_name
returns-then-fits c = rw c.if-fits.true c.name.ensures
