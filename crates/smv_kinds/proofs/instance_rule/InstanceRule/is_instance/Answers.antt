use Rattle.std.proofs.Common.{ap, ◌∙◌}
use Rattle.std.specs.Option.{is_some}
use Rattle.smv_kinds.proofs.instance_rule.InstanceRule.is_instance.Goals as goal

pub returns : goal.returns
returns c = c.is_some.ensures ∙ (ap is_some c.aliased-found.ensures ∙ c.args.self.now.aliases_after c.args.e.now)
