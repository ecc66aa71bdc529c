use Rattle.std.proofs.Common.{subst}
use Rattle.smv_meaning.specs.declared.run.RunState.{RunState}
use Rattle.smv_meaning.specs.Runs.{written_state}
use Rattle.smv_meaning.specs.Valuation.{IsValuationTable}
use Rattle.smv_meaning.proofs.SlotLemmas.{is_valuation_table}
use Rattle.smv_meaning.proofs.valuation.valuation_of.Goals as goal

pub returns : goal.returns
returns c =
    subst (λ (w : RunState). IsValuationTable c.args.context.now.program.now c.args.context.now.table (written_state w) c.in_ok-solution.solution) c.in_ok-written.ensures
    (is_valuation_table c.args.context.now.program.now c.args.context.now.table (written_state c.in_ok-written.written.state.now) c.in_ok-solution.solution c.args.context.now.has c.in_ok-solution.ensures.1)
