use Rattle.std.proofs.Common.{ap, ◌∙◌}
use Rattle.smv_meaning.specs.NameSets.{in_set}
use Rattle.smv_kinds.proofs.context.KindContext.is_symbol.Goals as goal

pub returns : goal.returns
returns c = c.contains.ensures ∙ (ap (in_set c.args.self.now.symbols.now) c.as_str.ensures ∙ ap (λ has. has c.args.name.now) c.args.self.now.words)
