use Rattle.std.proofs.Common.{◌∙◌}
use Rattle.smv_meaning.proofs.SymbolLemmas.{symbols_are}
use Rattle.smv_meaning.proofs.symbols.symbols_of.Goals as goal

pub returns : goal.returns
returns c = c.in_ok-names.ensures ∙ symbols_are c.args.program.now
