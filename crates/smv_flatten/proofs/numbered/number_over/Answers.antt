use Rattle.std.proofs.Common.{List, subst}
use Rattle.smv_meaning.specs.declared.table.Row.{Row}
use Rattle.smv_meaning.specs.Valuation.{ArePathTexts}
use Rattle.smv_meaning.proofs.NumberLemmas.{are_linked}
use Rattle.smv_flatten.proofs.SpecLemmas.{specs_below}
use Rattle.smv_flatten.proofs.numbered.number_over.Goals as goal

pub path_texts-requires : goal.path_texts-requires
path_texts-requires c = rw c.as_slice-3.ensures (are_linked c.args.lifted.now.program c.args.names.now.table.now c.requires.right)

pub flat_specs-requires-clause-rows : goal.flat_specs-requires-clause-rows
flat_specs-requires-clause-rows c = rw c.as_slice-6.ensures.value (specs_below c.args.lifted.now.program c.as_slice.result.now c.args.names.now.table.now c.args.order.now c.in_ok-specs.specs.items c.requires.rows c.in_ok-specs.ensures)

pub flat_specs-requires-clause-linked : goal.flat_specs-requires-clause-linked
flat_specs-requires-clause-linked c = are_linked c.args.lifted.now.program c.args.names.now.table.now c.requires.right

pub flat_specs-requires-clause-texts : goal.flat_specs-requires-clause-texts
flat_specs-requires-clause-texts c = rw c.as_slice-5.ensures (subst (λ (rows : List Row). ArePathTexts rows c.in_ok-texts.texts) c.as_slice-3.ensures c.in_ok-texts.ensures.paths)
