use Rattle.smv_meaning.proofs.NumberLemmas.{has_slots}
use Rattle.smv_types.proofs.TypedLemmas.{each_once}
use Rattle.smv_types.proofs.checks.check_table.Goals as goal

pub aliases_of-requires : goal.aliases_of-requires
aliases_of-requires c = has_slots c.args.program.now c.args.table.now c.requires.right

pub check_rows-requires-clause-one : goal.check_rows-requires-clause-one
check_rows-requires-clause-one c = each_once c.args.program.now c.args.table.now c.in_ok-order.order c.in_ok-order.ensures.rows c.in_ok-order.ensures.order c.requires.count c.requires.apart
