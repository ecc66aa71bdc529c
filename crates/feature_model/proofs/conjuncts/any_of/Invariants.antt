use Rattle.std.proofs.Common.{◌≡◌, drop, fold}
use Rattle.smv_ast.specs.declared.syntax.Op.TheVariants as op
use Rattle.smv_ast.specs.declared.syntax.Expr.TheVariants as e
use Rattle.feature_model.specs.Formula.{named, any_of}
use Rattle.feature_model.proofs.conjuncts.any_of.Given as goal

abbrev pub invariant-loop-child : goal.invariant-loop-child
invariant-loop-child l = fold (λ all one. e.Binary op.Or all (named l.names one)) l.made (drop l.child-index l.more) ≡ any_of l.names l.children
