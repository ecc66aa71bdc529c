use Rattle.std.proofs.Common.{subst}
use Rattle.smv_expr.specs.Reading.{Gives}
use Rattle.smv_expr.proofs.Answering.{result_of_stop}
use Rattle.smv_expr.proofs.answer.answer.Goals as goal

pub returns-in_ok-fault-in-Err : goal.returns-in_ok-fault-in-Err
returns-in_ok-fault-in-Err g c = λ o h. result_of_stop c.args.file c.args.bytes.now o c.in-Err.error c.args.tokens.now c.in_ok-fault-in-Err.field-0
    (subst (λ r. Gives o r c.args.tokens.now) c.in-Err.is h) c.in_ok-fault-in-Err.ensures
