use Rattle.std.proofs.Common.{◌≡◌, drop}
use Rattle.fixpoint.specs.Fixpoints.{entry}
use Rattle.smv_meaning.specs.Paths.{walked}
use Rattle.smv_meaning.specs.Slots.{by_slot}
use Rattle.smv_meaning.proofs.aliases.walk.Given as goal

abbrev pub invariant-loop-name : goal.invariant-loop-name
invariant-loop-name l = walked (by_slot l.table (entry l.solution)) l.row (drop l.name-index l.names) ≡ walked (by_slot l.table (entry l.solution)) l.start l.names
