use Rattle.fsmv_lift.proofs.IntroducedLemmas.{after_insert}
use Rattle.fsmv_lift.proofs.introduced.put.Goals as goal

pub returns : goal.returns
returns c = λ called name. after_insert c.args.types.now c.insert.new.self (c.as_str.result, c.as_str-2.result) c.args.variable.now.values
    c.args.variable.now.«module».now c.args.variable.now.name.now c.in_ok-insert.ensures.updates c.as_str.ensures c.as_str-2.ensures called name
