use Rattle.std.proofs.Common.{◌≡◌, ◌++◌, drop}
use Rattle.std.specs.List.{flat_map}
use Rattle.smv_meaning.specs.Items as spec
use Rattle.smv_meaning.proofs.items.program_items.Given as goal

abbrev pub invariant-loop-owner : goal.invariant-loop-owner
invariant-loop-owner l = spec.items_view l.items ++ flat_map spec.items (drop l.owner-index l.program.modules) ≡ spec.program_items l.program
