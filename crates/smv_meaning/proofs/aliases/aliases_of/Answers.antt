use Rattle.smv_meaning.proofs.SlotLemmas.{are_aliases}
use Rattle.smv_meaning.proofs.aliases.aliases_of.Goals as goal

pub returns : goal.returns
returns c = are_aliases c.args.table.now c.in_ok-solution.solution c.requires c.in_ok-solution.ensures.1
