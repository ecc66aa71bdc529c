use Rattle.std.proofs.Common.{◌≡◌}
use Rattle.sat_arena.specs.Trails.{marked}
use Rattle.sat_arena.specs.ArenaState.{clause_satisfied}
use Rattle.sat_search.proofs.RetireLemmas.{HasRetired}
use Rattle.sat_search.proofs.retirement.retire_lines.Given as goal

abbrev pub invariant-loop-before : goal.invariant-loop-before
invariant-loop-before l = record {
  axioms : l.log.axioms ≡ l.fn.log.axioms;
  retired : HasRetired (clause_satisfied (marked l.literal_set)) l.fn.log.lines l.log.lines l.before;
}
