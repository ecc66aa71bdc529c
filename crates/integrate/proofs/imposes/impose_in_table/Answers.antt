use Rattle.smv_meaning.proofs.NumberLemmas.{has_slots}
use Rattle.integrate.proofs.imposes.impose_in_table.Goals as goal

pub aliases_of-requires : goal.aliases_of-requires
aliases_of-requires c = has_slots c.args.known.now c.args.table.now c.requires.right
