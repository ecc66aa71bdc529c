use Rattle.std.proofs.Common.{◌≡◌, ◌+◌, ◌-◌, ◌++◌, ℕ, List, drop, length, map, sym, ap, ◌∙◌, subst, arith, append_assoc}
use Rattle.std.specs.List.{flat_map}
use Rattle.smv_meaning.specs.Instances.{Entry, Instance, subtree, inner_of, entries, module_at}
use Rattle.smv_meaning.specs.Checking.{instance_at, inner_slot, AreRows, AreWaiting, waiting_instances}
use Rattle.smv_meaning.proofs.NumberLemmas.{get_at}
use Rattle.smv_meaning.proofs.OrderLemmas.{visited, visit_next, names_count, drop_past, instances_slot, waiting_slot}
use Rattle.smv_meaning.proofs.order.push_inner.Goals as goal

pub inner-init : goal.inner-init
inner-init c =
    let names : List Entry = entries (module_at c.args.program.now (instance_at c.args.table.now c.args.next.row)) in
    let count : c.count_of-k.result ≡ length names = c.count_of-k.ensures ∙ names_count c.args.program.now c.args.table.now c.requires.right c.args.next.row c.requires.row in
    record {
      within = omega (arith, count);
      rows = λ rows. rows;
      waiting = ap (λ (es : List Entry). flat_map (subtree (c.args.next.left - 1) c.args.program.now) (flat_map (λ e. inner_of c.args.program.now (instance_at c.args.table.now c.args.next.row) e.name e.entity) es) ++ waiting_instances c.args.program.now c.args.table.now c.args.waiting.now)
          (sym (drop_past names c.count_of-k.result (omega (arith, count))));
    }

pub inner-preserved : goal.inner-preserved
inner-preserved c =
    let k : ℕ = c.inner.k - 1 in
    let left : ℕ = c.args.next.left - 1 in
    let names : List Entry = entries (module_at c.args.program.now (instance_at c.args.table.now c.args.next.row)) in
    let tail : ℕ → List Instance = λ n. flat_map (subtree left c.args.program.now) (flat_map (λ e. inner_of c.args.program.now (instance_at c.args.table.now c.args.next.row) e.name e.entity) (drop n names)) in
    let old : List Instance = waiting_instances c.args.program.now c.args.table.now c.args.waiting.now in
    let next : k + 1 ≡ c.inner.k = omega arith in
    let e = get_at names k (omega (arith, c.inner.invariant.within)) in
    let slot : List Instance = flat_map (subtree left c.args.program.now) (map (instance_at c.args.table.now) (inner_slot c.slot_in.result)) in
    record {
      within = omega (arith, c.inner.invariant.within);
      rows = λ rows. subst (AreWaiting c.args.table.now) (sym c.in_ok-push_slot.ensures)
          (waiting_slot c.args.table.now left c.inner.waiting c.slot_in.result
          (subst (λ o. AreRows c.args.table.now (inner_slot o)) (sym c.slot_in.ensures) (visited c.args.program.now c.args.table.now c.requires.right c.args.next.row c.requires.row k e.0 e.1).rows)
          (c.inner.invariant.rows rows));
      waiting =
          ap (waiting_instances c.args.program.now c.args.table.now) c.in_ok-push_slot.ensures
          ∙ (instances_slot c.args.program.now c.args.table.now left c.inner.waiting c.slot_in.result
          ∙ (ap (λ (ps : List Instance). slot ++ ps) (c.inner.invariant.waiting ∙ ap (λ (n : ℕ). tail n ++ old) (sym next))
          ∙ (sym (append_assoc slot (tail (k + 1)) old)
          ∙ ap (λ (ps : List Instance). ps ++ old)
          (ap (λ o. flat_map (subtree left c.args.program.now) (map (instance_at c.args.table.now) (inner_slot o)) ++ tail (k + 1)) c.slot_in.ensures
          ∙ sym (visit_next c.args.program.now c.args.table.now c.requires.right c.args.next.row c.requires.row left k e.0 e.1)))));
    }
