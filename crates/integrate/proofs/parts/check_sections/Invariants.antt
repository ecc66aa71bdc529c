use Rattle.std.proofs.Common.{◌≡◌, drop}
use Rattle.smv_meaning.specs.Items.{all_items}
use Rattle.smv_meaning.specs.Runs.{first_fault}
use Rattle.integrate.specs.Applications as application
use Rattle.integrate.proofs.parts.check_sections.Given as goal

abbrev pub invariant-loop-section : goal.invariant-loop-section
invariant-loop-section l = first_fault (application.item_fault l.application l.module_scope) (all_items (drop l.section-index l.sections)) ≡ first_fault (application.item_fault l.application l.module_scope) (all_items l.sections)
