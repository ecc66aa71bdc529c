use Rattle.std.proofs.Common.{ap, ◌∙◌}
use Rattle.smv_kinds.specs.Facts.{facts_of}
use Rattle.smv_kinds.proofs.instance_rule.InstanceRule.facts.Goals as goal

pub returns : goal.returns
returns c = c.in_ok-facts.ensures ∙ ap (λ s. facts_of s c.args.e.now) c.args.self.now.sorting
