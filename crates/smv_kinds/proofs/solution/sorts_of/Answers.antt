use Rattle.smv_kinds.proofs.TableLemmas.{are_sorts}
use Rattle.smv_kinds.proofs.solution.sorts_of.Goals as goal

pub returns : goal.returns
returns c = are_sorts c.args.context.now.program.now c.args.context.now.table.now c.in_ok-solution.solution c.args.context.now.has c.in_ok-solution.ensures.1
