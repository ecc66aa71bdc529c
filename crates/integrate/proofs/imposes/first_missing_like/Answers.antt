use Rattle.std.proofs.Common.{sym, ◌∙◌}
use Rattle.integrate.specs.Lookups.{program_of}
use Rattle.integrate.proofs.SameNamesLemmas.{same_missing}
use Rattle.integrate.proofs.imposes.first_missing_like.Goals as goal

pub returns : goal.returns
returns c = c.in_ok-found.ensures ∙ sym (same_missing c.args.program.now (program_of c.args.lookups.now) c.requires.same c.args.change.now)
