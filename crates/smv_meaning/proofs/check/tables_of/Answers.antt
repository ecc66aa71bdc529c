use Rattle.std.proofs.Common.{◌∷◌, [], length, ap, arith, length-append}
use Rattle.std.proofs.lemmas.Option.{slice_get_within}
use Rattle.smv_meaning.proofs.ValuationLemmas.{get_item}
use Rattle.smv_meaning.proofs.RunLemmas.{tables_more}
use Rattle.smv_meaning.proofs.check.tables_of.Goals as goal

pub loop-state-preserved : goal.loop-state-preserved
loop-state-preserved c = record {
  count = omega (arith, ap length c.in_ok-push.ensures.ok, length-append c.loop-state.tables (c.in_ok-solution.solution ∷ []), c.loop-state.invariant.count);
  known_of = tables_more c.args.context.now c.args.states.now c.loop-state.tables c.push.new.self c.loop-state.state-index c.state-item.result c.in_ok-solution.solution
      (get_item c.args.states.now c.loop-state.state-index c.state-item.result (omega arith) c.state-item.is) c.loop-state.invariant.count c.in_ok-push.ensures.ok c.in_ok-solution.ensures c.loop-state.invariant.known_of;
}

pub returns : goal.returns
returns c = λ k state e. c.loop-state.invariant.known_of k state (omega (arith, slice_get_within c.args.states.now k state e)) e
