use Rattle.std.proofs.Common.{◌≡◌, ◌++◌, drop, map}
use Rattle.smv_meaning.specs.Items as spec
use Rattle.smv_meaning.proofs.items.push_section.Given as goal

abbrev pub invariant-loop-declaration : goal.invariant-loop-declaration
invariant-loop-declaration l = spec.items_view l.items ++ map spec.declaration_item (drop l.declaration-index l.declaration-items) ≡ spec.items_view l.fn.items ++ spec.section_items l.section

abbrev pub invariant-loop-assignment : goal.invariant-loop-assignment
invariant-loop-assignment l = spec.items_view l.items ++ map spec.assignment_item (drop l.assignment-index l.assignment-items) ≡ spec.items_view l.fn.items ++ spec.section_items l.section

abbrev pub invariant-loop-definition : goal.invariant-loop-definition
invariant-loop-definition l = spec.items_view l.items ++ map spec.definition_item (drop l.definition-index l.definition-items) ≡ spec.items_view l.fn.items ++ spec.section_items l.section
