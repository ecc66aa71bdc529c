use Rattle.std.proofs.Common.{◌≡◌, ◌++◌, map, take, drop}
use Rattle.sat_lits.specs.Literals.{negation}
use Rattle.sat_analyze.proofs.clause.clause_against.Given as goal

abbrev pub invariant-loop-lit : goal.invariant-loop-lit
invariant-loop-lit l = l.lit-items ≡ map negation (take l.lit-index l.fn.lits.items) ++ drop l.lit-index l.fn.lits.items
