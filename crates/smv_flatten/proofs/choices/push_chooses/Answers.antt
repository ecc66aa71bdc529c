use Rattle.std.proofs.Common.{◌≡◌, ℕ, ◌-◌, ◌+◌, ◌<◌, length, take, ap, sym, ◌∙◌, arith}
use Rattle.smv_flatten.specs.Making.{chosen}
use Rattle.smv_flatten.proofs.RunLemmas.{chosen_take}
use Rattle.smv_flatten.proofs.choices.push_chooses.Goals as goal

pub loop-left-preserved : goal.loop-left-preserved
loop-left-preserved c =
    let left : ℕ = c.loop-left.left in
    let within : left - 1 < length c.args.branches.now = omega (arith, c.loop-left.invariant.0) in
    let e : left - 1 + 1 ≡ left = omega arith in (
      omega (arith, c.loop-left.invariant.0),
      ap (chosen (take (left - 1) c.args.branches.now)) c.in_ok-node.ensures
          ∙ sym (chosen_take c.args.branches.now (left - 1) _ (c.loop-left.store, c.loop-left.node) within)
          ∙ ap (λ (n : ℕ). chosen (take n c.args.branches.now) (c.loop-left.store, c.loop-left.node)) e
          ∙ c.loop-left.invariant.1,
    )
