use Rattle.std.specs.Prelude.{All}
use Rattle.sat_search.specs.Retirements.{IsUnitLine}
use Rattle.sat_search.proofs.retirement.units_after.Given as goal

abbrev pub invariant-loop-before : goal.invariant-loop-before
invariant-loop-before l = All (IsUnitLine l.log.lines) l.units.items
