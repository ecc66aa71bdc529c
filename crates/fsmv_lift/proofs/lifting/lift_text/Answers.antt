use Rattle.std.proofs.Common.{rules}
use Rattle.fsmv_lift.proofs.LiftingLemmas.{lift_finished}
use Rattle.fsmv_lift.proofs.lifting.lift_text.Goals as goal

pub returns-in_ok-introduced_variables-in-Ok-clause-lift : goal.returns-in_ok-introduced_variables-in-Ok-clause-lift
returns-in_ok-introduced_variables-in-Ok-clause-lift c = lift_finished c.args.family.now c.in-Ok.program _ (search rules) (search rules) (search rules) (search rules)
