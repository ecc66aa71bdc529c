use Rattle.std.proofs.Common.{◌≡◌, drop}
use Rattle.integrate_treat.specs.TreatedExpr.{same_names}
use Rattle.integrate_treat.proofs.expressions.same_names.Given as goal

abbrev pub invariant-loop-i : goal.invariant-loop-i
invariant-loop-i l = same_names l.a l.b ≡ same_names (drop l.i l.a) (drop l.i l.b)
