use Rattle.std.proofs.Common.{arith, sym, subst}
use Rattle.std.proofs.lemmas.Bool.{false≢true}
use Rattle.sat_lits.specs.Clauses.{HasRisingVariables}
use Rattle.sat_lits.proofs.Rising.{falls}
use Rattle.sat_lits.proofs.clauses.Clause.new.Goals as goal

pub returns-then-var-previous-clause-exact : goal.returns-then-var-previous-clause-exact
returns-then-var-previous-clause-exact c =
    ((λ some. absurd (false≢true some)), λ rising. absurd (falls _ _ _ _ c.loop-lit-test.true c.loop-lit.invariant.start c.loop-lit.invariant.last c.lit-item.is (omega arith) (omega arith) (subst HasRisingVariables (sym c.deref-lit-items.ensures.value) rising)))
