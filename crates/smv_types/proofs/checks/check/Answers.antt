use Rattle.smv_types.proofs.TypedLemmas.{text_shaped, text_apart, if_sound, read_low, text_distinct}
use Rattle.smv_types.proofs.checks.check.Goals as goal

pub returns-clause-sound : goal.returns-clause-sound
returns-clause-sound c = if_sound c.args.program.now c.check_table.result (text_shaped c.args.program.now c.in_ok-check_text.ensures) c.check_table.ensures.sound

pub check_table-requires-clause-apart : goal.check_table-requires-clause-apart
check_table-requires-clause-apart c = text_apart c.args.program.now c.in_ok-check_text.ensures

pub returns-clause-heights : goal.returns-clause-heights
returns-clause-heights c = read_low c.args.program.now c.check_table.result c.check_table.ensures.first

pub returns-clause-texts : goal.returns-clause-texts
returns-clause-texts c = text_distinct c.args.program.now c.check_table.result c.in_ok-check_text.ensures
