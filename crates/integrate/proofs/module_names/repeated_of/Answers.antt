use Rattle.std.proofs.Common.{Bool, ap, ◌∙◌}
use Rattle.smv_meaning.specs.Value.{Name}
use Rattle.integrate.specs.ModuleNames.{Met, names_view}
use Rattle.integrate.proofs.ModuleNameLemmas.{repeated}
use Rattle.integrate.proofs.module_names.repeated_of.Goals as goal

pub returns : goal.returns
returns c = λ called name. ap (λ (has : Name → Name → Bool). has called name) (ap (λ (met : Met). met.1) c.in_ok-occurrences.ensures ∙ repeated (names_view c.args.names.now))
