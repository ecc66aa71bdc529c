use Rattle.std.proofs.Common.{arith}
use Rattle.sat_arena.specs.Trails.{marked}
use Rattle.sat_arena.specs.ArenaState.{clauses_of}
use Rattle.sat_search.proofs.KeepsLemmas.{id_names, covered_not_false}
use Rattle.sat_search.proofs.solver.Solver.known_answer.Goals as goal

pub returns-in-Some-clause-some : goal.returns-in-Some-clause-some
returns-in-Some-clause-some c =
    let log = c.args.self.now.log in
    let stored = c.args.self.now.propagator.stored in
    record {
      clause = _;
      names = id_names log stored c.in-Some.position c.id_at-id.result c.requires.solver.keeps.names c.in-Some.ensures.some.0 c.id_at-id.ensures;
      false_there = c.in-Some.ensures.some.1;
    }

pub returns-then-derived-most-clause-some : goal.returns-then-derived-most-clause-some
returns-then-derived-most-clause-some c = (
  omega (arith, c.if-derived-most.true, c.derived.ensures.count),
  λ id clause is falsified. covered_not_false (marked c.args.literal_set.now) (clauses_of c.args.self.now.propagator.stored) clause c.in_default.ensures.none (c.requires.solver.keeps.listed id clause is) falsified,
)

pub returns-clause-none : goal.returns-clause-none
returns-clause-none c id clause is falsified =
    covered_not_false (marked c.args.literal_set.now) (clauses_of c.args.self.now.propagator.stored) clause c.in_default.ensures.none (c.requires.solver.keeps.listed id clause is) falsified
