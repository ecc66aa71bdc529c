use Rattle.smv_meaning.proofs.NumberLemmas.{has_slots, are_linked}
use Rattle.smv_meaning.proofs.valuation.RunContext.of_program.Goals as goal

pub aliases_of-requires : goal.aliases_of-requires
aliases_of-requires c = has_slots c.args.program.now c.in_ok-table.table c.in_ok-table.ensures.right

pub path_texts-requires : goal.path_texts-requires
path_texts-requires c = rw c.as_slice.ensures (are_linked c.args.program.now c.in_ok-table.table c.in_ok-table.ensures.right)

pub invariant_of-result-clause-has : goal.invariant_of-result-clause-has
invariant_of-result-clause-has c = has_slots c.args.program.now c.in_ok-table.table c.in_ok-table.ensures.right

pub invariant_of-result-clause-spells : goal.invariant_of-result-clause-spells
invariant_of-result-clause-spells c = rw c.as_slice.ensures at c.in_ok-texts.ensures.names

pub invariant_of-result-clause-paths : goal.invariant_of-result-clause-paths
invariant_of-result-clause-paths c = rw c.as_slice.ensures at c.in_ok-texts.ensures.paths

pub invariant_of-result-clause-words : goal.invariant_of-result-clause-words
invariant_of-result-clause-words c = c.in_ok-symbols.ensures
