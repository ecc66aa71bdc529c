use Rattle.std.proofs.Common.{ℕ, ◌≡◌, rules, ◌∙◌, arith, length, ◌<◌, ◌≤◌, ◌^◌}
use Rattle.fixpoint.specs.Fixpoints.{filled, IsClosed}
use Rattle.fixpoint.proofs.TableLemmas.{filled_length, finished, blank_sound}
use Rattle.fixpoint.proofs.table.fill.Goals as goal

pub visit_each-requires : goal.visit_each-requires
visit_each-requires g c = record { sound = blank_sound (g.S.Step.step c.args.steps.now) c.in_ok-table.table c.in_ok-table.ensures.1 }

pub sweeping-smaller : goal.sweeping-smaller
sweeping-smaller g c =
    let h : filled c.visit_waiting.new.table < filled c.sweep.new.table = search rules in
    let k : filled c.sweeping.table ≤ filled c.visit_waiting.new.table = c.visit_waiting.ensures.kept in
    let i : length c.sweep.new.table ≡ c.args.count = c.sweep.ensures.same ∙ (c.visit_waiting.ensures.same ∙ c.sweeping.invariant.same) in
    omega (arith, h, k, i, filled_length c.sweep.new.table)

pub returns-then-not-gained : goal.returns-then-not-gained
returns-then-not-gained g c =
    let closed : (k : ℕ) → k < length c.sweep.new.table → IsClosed (g.S.Step.step c.args.steps.now) c.sweep.new.table k = rw c.if-not-gained.true at c.in_ok-gained.ensures.gained in
    let same : length c.sweep.new.table ≡ c.args.count = c.sweep.ensures.same ∙ (c.visit_waiting.ensures.same ∙ c.sweeping.invariant.same) in
    let small : length c.sweep.new.table < 2 ^ 64 = omega (arith, same) in
    (same, finished (g.S.Step.step c.args.steps.now) (g.S.Step.monotone c.args.steps.now) c.sweep.new.table c.args.count small c.sweep.ensures.sound closed same c.requires)
