use Rattle.std.proofs.Common.{string_bytes}
use Rattle.std.proofs.lemmas.Result.{IfOk-weaker}
use Rattle.fsmv_top.specs.declared.plan.Plan.{Plan}
use Rattle.fsmv_top.proofs.PlanLemmas.{plan_of_family, plan_of_refusal, plan_of_unread}
use Rattle.fsmv_top.proofs.weave.weave_plan.Goals as goal

pub returns-in-Ok-clause-plan : goal.returns-in-Ok-clause-plan
returns-in-Ok-clause-plan g c =
    IfOk-weaker _ _ _ (λ (plan : Plan) h. plan_of_family _ _ _ _ c.in-Ok.family c.in-Ok.ensures.ok plan.status (string_bytes plan.text) h) c.family_plan.ensures

pub returns-in-Err-Refused-clause-plan : goal.returns-in-Err-Refused-clause-plan
returns-in-Err-Refused-clause-plan g c =
    let given = g.F.Files in
    IfOk-weaker _ _ _ (λ (plan : Plan) h. plan_of_refusal _ _ (given.faults c.args.files.now) (given.faults c.read_family.new.files) c.in-Err-Refused.field-0 c.in-Err-Refused.fault
    c.in-Err-Refused.field-0-is c.in-Err-Refused.ensures.failed plan.status (string_bytes plan.text) h.0 h.1) c.refusal.ensures

pub returns-in-Err-Unread-clause-plan : goal.returns-in-Err-Unread-clause-plan
returns-in-Err-Unread-clause-plan g c =
    let given = g.F.Files in
    IfOk-weaker _ _ _ (λ (plan : Plan) h. plan_of_unread _ _ (given.faults c.args.files.now) (given.faults c.read_family.new.files) c.in-Err-Unread.field-0 c.in-Err-Unread.file
    c.in-Err-Unread.field-0-is c.in-Err-Unread.ensures.failed plan.status (string_bytes plan.text) h.0 h.1) c.read_fault.ensures
