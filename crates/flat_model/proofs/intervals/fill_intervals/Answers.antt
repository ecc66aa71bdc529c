use Rattle.std.proofs.Common.{◌≡◌, ◌<◌, ◌∙◌, length, subst, arith, List, take, pos}
use Rattle.flat_model.specs.declared.nodes.FlatNode.TheVariants.{Const}
use Rattle.flat_model.specs.Intervals.{node_interval, intervals}
use Rattle.flat_model.proofs.Attributes.{attributes-written}
use Rattle.flat_model.proofs.Filling.{intervals_variable_there, intervals_operands_before, intervals_limited}
use Rattle.flat_model.proofs.intervals.fill_intervals.Goals as goal

within : (c : goal.After-node_interval-arg-1) → c.loop-i.i < length c.args.flat.now.nodes
within c = subst (λ (nodes : List _). c.loop-i.i < length nodes) c.as_slice-node-items.ensures c.loop-i-test.true

so_far : (c : goal.After-node_interval-arg-1) → c.split_at_mut-done.result.0.now ≡ intervals c.args.flat.now.vars (take c.loop-i.i c.args.flat.now.nodes)
so_far c = c.split_at_mut-done.ensures.front ∙ c.loop-i.invariant

pub node_interval-requires-clause-variable : goal.node_interval-requires-clause-variable
node_interval-requires-clause-variable c =
    rw (c.as_slice-node-items.ensures, c.as_slice-vars.ensures) (intervals_variable_there c.args.flat.now c.requires.sound c.loop-i.i (within c) c.split_at_mut-done.result.0.now (so_far c))

pub node_interval-requires-clause-operands : goal.node_interval-requires-clause-operands
node_interval-requires-clause-operands c =
    rw c.as_slice-node-items.ensures (intervals_operands_before c.args.flat.now c.requires.sound c.loop-i.i (within c) c.split_at_mut-done.result.0.now (so_far c))

pub node_interval-requires-clause-limited : goal.node_interval-requires-clause-limited
node_interval-requires-clause-limited c =
    intervals_limited c.args.flat.now c.requires.sound c.loop-i.i (within c) c.split_at_mut-done.result.0.now (so_far c)

pub loop-i-preserved : goal.loop-i-preserved
loop-i-preserved c =
    let in_loop : c.loop-i.i < length c.args.flat.now.nodes = subst (λ (nodes : List _). c.loop-i.i < length nodes) c.as_slice-node-items.ensures c.loop-i-test.true in
    attributes-written (node_interval c.args.flat.now.vars) c.args.flat.now.nodes c.loop-i.i
    c.split_at_mut-done.result.0.now c.split_at_mut-done.result.1.now c.node_interval.result (Const (pos 0)) in_loop
    (c.split_at_mut-done.ensures.front ∙ c.loop-i.invariant) c.split_at_mut-done.ensures.front_len (omega (arith, c.requires.a_cell_each, in_loop))
    (rw (c.as_slice-node-items.ensures, c.as_slice-vars.ensures) at c.node_interval.ensures)
