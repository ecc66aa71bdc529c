use Rattle.std.proofs.Common.{sym, ◌∙◌}
use Rattle.smv_meaning.specs.Items.{section_items}
use Rattle.smv_meaning.proofs.FaultLemmas.{reports_err}
use Rattle.integrate.specs.Applications as applied
use Rattle.integrate.proofs.FaultLemmas.{first_next, first_later}
use Rattle.integrate.proofs.parts.check_sections.Goals as goal

pub returns-in_err-check_section : goal.returns-in_err-check_section
returns-in_err-check_section c =
    reports_err _ _ _ _ _ _
    (sym (first_next (applied.item_fault c.args.application.now c.args.module_scope.now) section_items c.args.sections.now c.loop-section.section-index c.section-item.result c.loop-section-test.true c.section-item.is) ∙ c.loop-section.invariant)
    c.check_section.ensures c.in_err-check_section.was c.from_residual.ensures.1

pub loop-section-preserved : goal.loop-section-preserved
loop-section-preserved c =
    first_later (applied.item_fault c.args.application.now c.args.module_scope.now) section_items c.args.sections.now c.loop-section.section-index c.section-item.result _ _ _ c.loop-section-test.true c.section-item.is c.loop-section.invariant c.check_section.ensures c.in_ok-check_section.was
