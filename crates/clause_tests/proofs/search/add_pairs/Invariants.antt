use Rattle.std.proofs.Common.{◌≡◌}
use Rattle.clause_tests.proofs.search.add_pairs.Given as goal

abbrev pub invariant-loop-signed : goal.invariant-loop-signed
invariant-loop-signed l = l.session.vars ≡ l.fn.session.vars
