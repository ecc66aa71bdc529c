use Rattle.std.proofs.Common.{◌≡◌, ◌++◌, drop}
use Rattle.smv_meaning.specs.Items as spec
use Rattle.smv_meaning.proofs.items.push_module.Given as goal

abbrev pub invariant-loop-section : goal.invariant-loop-section
invariant-loop-section l = spec.items_view l.items ++ spec.all_items (drop l.section-index l.owner.sections) ≡ spec.items_view l.fn.items ++ spec.items l.owner
