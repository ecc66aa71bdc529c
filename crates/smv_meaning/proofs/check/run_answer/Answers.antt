use Rattle.std.proofs.Common.{sym, ◌∙◌, arith}
use Rattle.smv_meaning.proofs.RunLemmas.{broken_is, answer_breaks, answer_goes, is_valued, table_within}
use Rattle.smv_meaning.proofs.check.run_answer.Goals as goal

pub valued_state-now-requires-clause-tables : goal.valued_state-now-requires-clause-tables
valued_state-now-requires-clause-tables c = table_within c.args.context.now c.args.states.now c.args.tables.now c.loop-k.k c.requires.tables c.loop-k-test.true

pub returns-in-Some : goal.returns-in-Some
returns-in-Some c =
    let broken = broken_is c.args.context.now c.loop-k.before c.valued_state-now.result c.args.order.now c.requires.order in
    answer_breaks c.args.context.now.program.now c.loop-k.step c.loop-k.before c.valued_state-now.result c.args.states.now c.loop-k.k c.in-Some.item c.valued_state-now.ensures.written (sym c.in-Some.is ∙ (c.in_ok-item.ensures ∙ broken))
    ∙ c.loop-k.invariant.same

pub loop-k-preserved : goal.loop-k-preserved
loop-k-preserved c =
    let broken = broken_is c.args.context.now c.loop-k.before c.valued_state-now.result c.args.order.now c.requires.order in
    record {
      step = omega arith;
      before = is_valued c.args.context.now c.valued_state-now.result c.args.states.now c.args.tables.now c.loop-k.k c.requires.tables c.valued_state-now.ensures.written c.valued_state-now.ensures.solution;
      same = answer_goes c.args.context.now.program.now c.loop-k.step c.loop-k.before c.valued_state-now.result c.args.states.now c.loop-k.k c.valued_state-now.ensures.written (sym c.in-None.is ∙ (c.in_ok-item.ensures ∙ broken)) ∙ c.loop-k.invariant.same;
    }
