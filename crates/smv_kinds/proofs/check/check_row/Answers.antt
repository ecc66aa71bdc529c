use Rattle.smv_kinds.proofs.InstanceLemmas.{row_targets, row_sorting_is, instance_of_row}
use Rattle.smv_kinds.proofs.check.check_row.Goals as goal

pub invariant_of-rule : goal.invariant_of-rule
invariant_of-rule c = record {
  within = c.requires.row;
  targets = row_targets c.args.context.now.program.now c.args.context.now.table.now c.requires.right c.args.row c.requires.row;
  sorting = row_sorting_is c.args.context.now.program.now c.args.context.now.table.now c.requires.right c.args.solution.now c.args.row c.requires.sorts c.requires.row;
  aliases_after = instance_of_row c.args.context.now.program.now c.args.context.now.table.now c.requires.right c.args.context.now.aliases.now c.args.row c.args.context.now.is_of c.requires.row;
}
