use Rattle.smv_meaning.proofs.NumberLemmas.{has_slots}
use Rattle.smv_nodes.proofs.count.count_nodes.Goals as goal

pub count_read_exprs-requires-clause-has : goal.count_read_exprs-requires-clause-has
count_read_exprs-requires-clause-has c = has_slots c.args.program.now c.args.table.now c.requires.right
