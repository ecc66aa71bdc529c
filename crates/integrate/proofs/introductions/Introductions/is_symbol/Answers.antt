use Rattle.std.proofs.Common.{ap, ◌∙◌}
use Rattle.integrate.proofs.introductions.Introductions.is_symbol.Goals as goal

pub returns : goal.returns
returns c = c.contains.ensures ∙ ap (λ has. has c.args.name.now) c.requires.symbols
