use Rattle.smv_flatten.proofs.NumberedLemmas.{is_numbered}
use Rattle.smv_flatten.proofs.numbered.number_names.Goals as goal

pub returns : goal.returns
returns c = is_numbered c.args.lifted.now c.args.names.now c.args.order.now c.number_over.result c.requires.right c.requires.order c.requires.numbers c.requires.symbols c.number_over.ensures
