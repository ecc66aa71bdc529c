use Rattle.std.proofs.Common.{◌≡◌, ◌<◌, ◌+◌, length, ap, sym, subst, ◌∙◌, arith, List, ℕ}
use Rattle.std.proofs.lemmas.List.{with_items_is}
use Rattle.sat_search.specs.Orders.{AreRows}
use Rattle.sat_search.proofs.OrderLemmas.{IsOrder-moved}
use Rattle.sat_search.proofs.order.Order.insert.Goals as goal

pub invariant_of-self : goal.invariant_of-self
invariant_of-self c =
    let slots = c.self.inside.slots in
    let positions = c.self.inside.positions in
    let same : length c.put_last.new.slots ≡ length slots.items = c.put_last.auto.slots ∙ ap length c.as_mut_slice.ensures.value in
    let same_positions : length c.put_last.new.positions ≡ length positions.items = c.put_last.auto.positions ∙ ap length c.as_mut_slice-2.ensures.value in
    let low : c.args.row < c.self.inside.vars = omega arith in
    IsOrder-moved slots.items c.put_last.new.slots _ positions.items c.put_last.new.positions _ c.self.inside.activities.items c.self.inside.phases.items c.self.inside.count (c.self.inside.count + 1) c.self.inside.vars
    c.self.invariant
    (c.put_last.ensures.same c.self.inside.vars (subst (λ (s : List ℕ). AreRows c.self.inside.vars s) (sym c.as_mut_slice.ensures.value) c.self.invariant.within) low)
    same same_positions
    (with_items_is slots c.put_last.new.slots (same ∙ sym slots.ok.0)) (with_items_is positions c.put_last.new.positions (same_positions ∙ sym positions.ok.0))
    (omega (arith, slots.ok.0))
