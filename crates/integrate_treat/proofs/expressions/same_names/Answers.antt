use Rattle.std.proofs.Common.{sym, arith}
use Rattle.integrate_treat.proofs.NameLemmas.{unequal}
use Rattle.integrate_treat.proofs.expressions.same_names.Goals as goal

pub returns-then-a-b : goal.returns-then-a-b
returns-then-a-b c = sym (unequal c.args.a.now c.args.b.now (λ e. omega arith))
