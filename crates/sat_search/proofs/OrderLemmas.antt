-- The tables of an order, as their slices were lent and changed.
use Rattle.std.proofs.Common.{◌≡◌, ◌∙◌, ℕ, Bool, List, length, ap, subst, sym, arith, ◌≤◌}
use Rattle.sat_search.specs.Orders.{IsOrder, AreRows}

-- rows moved among the slots, and positions written
pub IsOrder-moved : (slots slots' slots'' positions places' places'' activities : List ℕ) (phases : List Bool) (count count' vars : ℕ) → IsOrder slots positions activities phases count vars → AreRows vars slots' → length slots' ≡ length slots → length places' ≡ length positions → slots'' ≡ slots' → places'' ≡ places' → count' ≤ length slots → IsOrder slots'' places'' activities phases count' vars
IsOrder-moved slots slots' slots'' positions places' places'' activities phases count count' vars order rows same same_positions slots_are positions_are filled = record {
  small = order.small;
  slots_room = ap length slots_are ∙ same ∙ order.slots_room;
  positions_room = (let long : length places'' ≡ length positions = ap length positions_are ∙ same_positions in omega (arith, order.positions_room));
  activities_room = order.activities_room;
  phases_room = order.phases_room;
  filled = (let long : length slots'' ≡ length slots = ap length slots_are ∙ same in omega arith);
  within = subst (λ (s : List ℕ). AreRows vars s) (sym slots_are) rows;
}
