use Rattle.std.proofs.Common.{◌≡◌, ◌+◌, ◌++◌, take}
use Rattle.sat_arena.specs.ArenaState.{clauses_of}
use Rattle.sat_arena.specs.Deduced.{Deduces}
use Rattle.sat_search.specs.Axioms.{axioms_from}
use Rattle.sat_search.proofs.growth.store_axioms.Given as goal

abbrev pub invariant-loop-clause : goal.invariant-loop-clause
invariant-loop-clause l = record {
  counted : l.number ≡ l.count + l.clause-index;
  stored : l.propagator.stored ≡ l.fn.propagator.stored ++ axioms_from (l.count + 1) (take l.clause-index l.clauses);
  vars : l.propagator.vars ≡ l.fn.propagator.vars;
  deduced : Deduces (clauses_of l.propagator.stored) 0 l.fn.propagator.entries l.propagator.entries;
}
