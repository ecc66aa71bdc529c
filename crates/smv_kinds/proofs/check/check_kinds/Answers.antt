use Rattle.smv_meaning.proofs.NumberLemmas.{has_slots}
use Rattle.smv_kinds.proofs.WholeLemmas.{sound_if_ok}
use Rattle.smv_kinds.proofs.check.check_kinds.Goals as goal

pub invariant_of-context : goal.invariant_of-context
invariant_of-context c = record { has = has_slots c.args.program.now c.args.table.now c.requires.right; is_of = c.requires.aliases; words = c.in_ok-symbols.ensures }

pub returns-clause-sound : goal.returns-clause-sound
returns-clause-sound c = sound_if_ok c.args.program.now c.check_context.result c.check_context.ensures
