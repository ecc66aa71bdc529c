use Rattle.std.proofs.Common.{sym, ap, ◌∙◌}
use Rattle.std.specs.Prelude.{slice_get}
use Rattle.std.specs.Option.{option_copied}
use Rattle.smv_meaning.proofs.ModuleNumberLemmas.{module_at_number, no_module}
use Rattle.smv_meaning.proofs.module_numbers.module_named.Goals as goal

pub returns-in-Some : goal.returns-in-Some
returns-in-Some c =
    c.at.ensures ∙ (ap (λ ms. slice_get ms c.in-Some.number.now) c.as_slice.ensures
    ∙ module_at_number c.args.program.now.modules c.args.name.now c.in-Some.number.now (sym (c.requires c.args.name.now) ∙ (sym c.get.ensures.value ∙ ap option_copied c.in-Some.is)))

pub returns-in-None : goal.returns-in-None
returns-in-None c = sym (no_module 0 c.args.program.now.modules c.args.name.now (sym (c.requires c.args.name.now) ∙ (sym c.get.ensures.value ∙ ap option_copied c.in-None.is)))
