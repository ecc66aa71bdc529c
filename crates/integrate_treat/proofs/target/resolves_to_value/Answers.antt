use Rattle.std.proofs.Common.{ap, ◌∙◌}
use Rattle.fixpoint.specs.Fixpoints.{entry}
use Rattle.smv_meaning.proofs.NumberLemmas.{has_slots}
use Rattle.integrate_treat.specs.Target.{is_value_slot}
use Rattle.integrate_treat.proofs.TargetLemmas.{value_is}
use Rattle.integrate_treat.proofs.target.resolves_to_value.Goals as goal

pub resolve-slot-requires-clause-has : goal.resolve-slot-requires-clause-has
resolve-slot-requires-clause-has c = has_slots c.args.program.now c.args.table.now c.requires.right

pub returns : goal.returns
returns c = c.is_value_slot.ensures ∙ (ap (is_value_slot (entry c.args.aliases.now)) c.resolve-slot.ensures
    ∙ value_is c.args.program.now c.args.table.now c.requires.right c.args.aliases.now c.args.row c.args.path.now c.requires.aliases c.requires.row)
