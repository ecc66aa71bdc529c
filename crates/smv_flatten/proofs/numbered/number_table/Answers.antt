use Rattle.smv_meaning.proofs.NumberLemmas.{has_slots}
use Rattle.smv_flatten.proofs.numbered.number_table.Goals as goal

pub aliases_of-requires : goal.aliases_of-requires
aliases_of-requires c = has_slots c.args.lifted.now.program c.args.table.now c.requires

pub variables_of-requires : goal.variables_of-requires
variables_of-requires c = has_slots c.args.lifted.now.program c.args.table.now c.requires

pub invariant_of-names-clause-has_slots : goal.invariant_of-names-clause-has_slots
invariant_of-names-clause-has_slots c = has_slots c.args.lifted.now.program c.args.table.now c.requires

pub invariant_of-names-clause-are_aliases : goal.invariant_of-names-clause-are_aliases
invariant_of-names-clause-are_aliases c = rw c.as_slice-3.ensures c.in_ok-aliases.ensures
