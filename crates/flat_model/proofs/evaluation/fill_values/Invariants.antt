use Rattle.std.proofs.Common.{◌≡◌, take}
use Rattle.flat_model.specs.Evaluation.{values_at}
use Rattle.flat_model.proofs.evaluation.fill_values.Given as goal

abbrev pub invariant-loop-i : goal.invariant-loop-i
invariant-loop-i l = take l.i l.into ≡ values_at l.fn.flat.vars (take l.i l.fn.flat.nodes) l.now l.after
