use Rattle.std.proofs.Common.{ap, ◌∙◌}
use Rattle.smv_meaning.specs.NameSets.{in_set}
use Rattle.integrate.proofs.names.declares.Goals as goal

pub returns : goal.returns
returns c = c.contains.ensures ∙ ap (in_set c.args.module_scope.now.declared.now) c.as_str.ensures ∙ ap (λ has. has c.args.name.now) c.requires.declared
