use Rattle.lift_relation.proofs.RunsLaw.{runs_correspond}
use Rattle.lift_relation.proofs.runs_correspond.Goals as goal

pub returns : goal.returns
returns c = runs_correspond
