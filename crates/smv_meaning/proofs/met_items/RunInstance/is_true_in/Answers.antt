use Rattle.std.proofs.Common.{◌∙◌, ap}
use Rattle.smv_meaning.specs.Value.{is_true}
use Rattle.smv_meaning.proofs.MetItemLemmas.{value_is}
use Rattle.smv_meaning.proofs.met_items.RunInstance.is_true_in.Goals as goal

pub returns : goal.returns
returns c =
    c.is_true.ensures ∙ ap is_true (rw (c.environment.ensures, c.environment-2.ensures) at c.in_ok-found.ensures ∙ value_is c.args.self.now.context.now c.args.self.now.row c.args.now c.args.after c.args.e.now c.requires.right c.args.self.now.within c.requires.now c.requires.after)
