use Rattle.std.proofs.Common.{◌∙◌}
use Rattle.indexmap.proofs.CallerLemmas.{insert_entry-new}
use Rattle.gate_build.specs.Numbering.{pair_eq}
use Rattle.gate_build.proofs.definition.define.Goals as goal

pub returns-clause-outputs : goal.returns-clause-outputs
returns-clause-outputs c = c.in_ok-insert.ensures.entries ∙ insert_entry-new pair_eq c.args.outputs.now (c.args.low, c.args.high) c.args.output c.requires.absent
