use Rattle.std.proofs.Common.{ap, ◌∙◌}
use Rattle.smv_meaning.specs.NameSets.{in_set}
use Rattle.integrate.proofs.lookups.Lookups.has_module.Goals as goal

pub returns : goal.returns
returns c = c.contains.ensures ∙ (ap (in_set c.args.self.now.modules.now) c.as_str.ensures ∙ ap (λ has. has c.args.called.now) c.requires.modules)
