use Rattle.std.proofs.Common.{ap, ◌∙◌}
use Rattle.std.specs.Prelude.{is_some}
use Rattle.smv_meaning.proofs.NumberLemmas.{has_slots}
use Rattle.smv_names.proofs.KnownLemmas.{resolve_is}
use Rattle.smv_names.proofs.known.is_resolved_in_row.Goals as goal

pub resolve-slot-requires-clause-has : goal.resolve-slot-requires-clause-has
resolve-slot-requires-clause-has c = has_slots c.args.known.now.program.now c.args.known.now.table.now c.requires.known.right

pub returns : goal.returns
returns c = c.is_some.ensures ∙ (ap is_some c.resolve-slot.ensures ∙ resolve_is c.args.known.now.program.now c.args.known.now.table.now c.args.row c.args.path.now c.requires.known.right c.requires.row)
