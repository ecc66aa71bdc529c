use Rattle.std.proofs.Common.{inl, inr}
use Rattle.std.proofs.lemmas.Result.{IfOk-weaker}
use Rattle.fsmv_top.specs.Words.{weave_view}
use Rattle.fsmv_top.proofs.command.planned.Goals as goal

pub weave_plan-requires : goal.weave_plan-requires
weave_plan-requires g c = record { allowed = c.requires (weave_view c.in-Some.named) c.in-Some.ensures }

pub returns-in-Some-clause-plan : goal.returns-in-Some-clause-plan
returns-in-Some-clause-plan g c =
    IfOk-weaker _ _ _ (λ plan h. inl (record { weave = weave_view c.in-Some.named; named = c.in-Some.ensures; plan = h })) c.weave_plan.ensures.plan

pub returns-in-None-clause-plan : goal.returns-in-None-clause-plan
returns-in-None-clause-plan g c = IfOk-weaker _ _ _ (λ plan h. inr (record { no_command = c.in-None.ensures; status = h.0; line = h.1 })) c.usage.ensures
