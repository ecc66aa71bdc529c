use Rattle.std.proofs.Common.{ap, ◌∙◌, map, Ok}
use Rattle.smv_meaning.specs.Instances.{instance_text}
use Rattle.smv_meaning.proofs.NumberLemmas.{are_linked}
use Rattle.smv_types.proofs.TypedLemmas.{counted}
use Rattle.smv_types.proofs.checks.check_rows.Goals as goal

pub path_texts-requires : goal.path_texts-requires
path_texts-requires c = rw c.as_slice.ensures (are_linked c.args.program.now c.args.table.now c.requires.right)

pub row_texts-requires-clause-linked : goal.row_texts-requires-clause-linked
row_texts-requires-clause-linked c = are_linked c.args.program.now c.args.table.now c.requires.right

pub returns-clause-typed : goal.returns-clause-typed
returns-clause-typed c = record {
  instances = c.in_ok-instances.ensures ∙ ap (map instance_text) c.requires.order;
  nodes = counted c.args.program.now c.args.table.now c.args.order.now (Ok c.in_ok-nodes.nodes) c.requires.right c.requires.rows c.requires.order c.requires.one c.in_ok-nodes.ensures;
}
