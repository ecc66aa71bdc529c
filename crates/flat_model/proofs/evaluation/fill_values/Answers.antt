use Rattle.std.proofs.Common.{◌≡◌, ◌<◌, ◌∙◌, length, subst, arith, rules, pos, List, take}
use Rattle.std.specs.Prelude.{FitsSigned}
use Rattle.std.specs.Int.{w64}
use Rattle.std.proofs.lemmas.Int.{to_z-of_z}
use mir.Val.{to_z, of_z}
use Rattle.flat_model.specs.declared.nodes.FlatNode.TheVariants.{Const}
use Rattle.flat_model.specs.Variables.{number_in}
use Rattle.flat_model.specs.Evaluation.{node_value, values_at}
use Rattle.flat_model.proofs.Attributes.{attributes-written}
use Rattle.flat_model.proofs.Filling.{variable_there, operands_before, values_limited, can_divide}
use Rattle.flat_model.proofs.evaluation.fill_values.Goals as goal

within : (c : goal.After-value_of-arg-1) → c.loop-i.i < length c.args.flat.now.nodes
within c = subst (λ (nodes : List _). c.loop-i.i < length nodes) c.as_slice-node-items.ensures c.loop-i-test.true

so_far : (c : goal.After-value_of-arg-1) → c.split_at_mut-done.result.0.now ≡ values_at c.args.flat.now.vars (take c.loop-i.i c.args.flat.now.nodes) c.args.now.now c.args.after.now
so_far c = c.split_at_mut-done.ensures.front ∙ c.loop-i.invariant

pub value_of-requires-clause-variable : goal.value_of-requires-clause-variable
value_of-requires-clause-variable c =
    rw (c.as_slice-node-items.ensures, c.as_slice-vars.ensures)
    (variable_there c.args.flat.now c.requires.sound c.args.now.now c.args.after.now c.requires.now_within c.requires.after_within c.loop-i.i (within c) c.split_at_mut-done.result.0.now (so_far c))

pub value_of-requires-clause-before : goal.value_of-requires-clause-before
value_of-requires-clause-before c =
    rw c.as_slice-node-items.ensures
    (operands_before c.args.flat.now c.requires.sound c.args.now.now c.args.after.now c.requires.now_within c.requires.after_within c.loop-i.i (within c) c.split_at_mut-done.result.0.now (so_far c))

pub value_of-requires-clause-limited : goal.value_of-requires-clause-limited
value_of-requires-clause-limited c =
    values_limited c.args.flat.now c.requires.sound c.args.now.now c.args.after.now c.requires.now_within c.requires.after_within c.loop-i.i (within c) c.split_at_mut-done.result.0.now (so_far c)

pub value_of-requires-clause-divides : goal.value_of-requires-clause-divides
value_of-requires-clause-divides c =
    rw c.as_slice-node-items.ensures
    (can_divide c.args.flat.now c.requires.sound c.args.now.now c.args.after.now c.requires.now_within c.requires.after_within c.loop-i.i (within c) c.split_at_mut-done.result.0.now (so_far c))

pub loop-i-preserved : goal.loop-i-preserved
loop-i-preserved c =
    let in_loop : c.loop-i.i < length c.args.flat.now.nodes = subst (λ (nodes : List _). c.loop-i.i < length nodes) c.as_slice-node-items.ensures c.loop-i-test.true in
    let fits : FitsSigned w64 c.value_of.result = search rules in
    attributes-written (node_value (number_in c.args.flat.now.vars c.args.now.now) (number_in c.args.flat.now.vars c.args.after.now)) c.args.flat.now.nodes c.loop-i.i
    c.split_at_mut-done.result.0.now c.split_at_mut-done.result.1.now (to_z w64 (of_z w64 c.value_of.result)) (Const (pos 0)) in_loop
    (c.split_at_mut-done.ensures.front ∙ c.loop-i.invariant) c.split_at_mut-done.ensures.front_len (omega (arith, c.requires.a_cell_each, in_loop))
    (to_z-of_z w64 c.value_of.result fits ∙ (rw (c.as_slice-node-items.ensures, c.as_slice-vars.ensures) at c.value_of.ensures))
