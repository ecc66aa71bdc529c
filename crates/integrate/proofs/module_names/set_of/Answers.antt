use Rattle.std.proofs.Common.{Bool, ap, ◌∙◌}
use Rattle.smv_meaning.specs.Value.{Name}
use Rattle.integrate.specs.ModuleNames.{names_view}
use Rattle.integrate.proofs.ModuleNameLemmas.{all_among}
use Rattle.integrate.proofs.module_names.set_of.Goals as goal

pub returns : goal.returns
returns c = λ called name. ap (λ (has : Name → Name → Bool). has called name) (c.in_ok-set.ensures ∙ all_among (names_view c.args.names.now))
