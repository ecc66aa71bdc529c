use Rattle.std.proofs.Common.{◌∙◌}
use Rattle.smv_meaning.proofs.MetItemLemmas.{allows_is}
use Rattle.smv_meaning.proofs.met_items.RunInstance.allows_in.Goals as goal

pub returns : goal.returns
returns c = rw (c.environment.ensures, c.environment-2.ensures) at c.in_ok-found.ensures ∙ allows_is c.args.self.now.context.now c.args.self.now.row c.args.now c.args.after c.args.e.now c.args.v.now c.requires.right c.args.self.now.within c.requires.now c.requires.after
