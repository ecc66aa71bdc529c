use Rattle.std.proofs.lemmas.Result.{IfOk-weaker}
use Rattle.smv_meaning.proofs.StateLemmas.{holds_there}
use Rattle.smv_meaning.proofs.spec.spec_holds.Goals as goal

pub returns : goal.returns
returns c = IfOk-weaker _ _ _ (λ b e. holds_there c.args.program.now c.args.instance.now c.args.expr.now c.args.state.now b c.requires e) c.holds_of_program.ensures
