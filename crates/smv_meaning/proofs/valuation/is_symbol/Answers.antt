use Rattle.std.proofs.Common.{ap, ◌∙◌}
use Rattle.smv_meaning.specs.NameSets.{in_set}
use Rattle.smv_meaning.proofs.valuation.is_symbol.Goals as goal

pub returns : goal.returns
returns c = c.contains.ensures ∙ (ap (in_set c.args.context.now.symbols) c.as_str.ensures ∙ ap (λ has. has c.args.name.now) c.args.context.now.words)
