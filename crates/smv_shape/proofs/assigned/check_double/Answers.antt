use Rattle.std.proofs.Common.{◌≡◌, ◌+◌, ◌∷◌, Some, Err, drop, sym, ap, ◌∙◌, subst}
use Rattle.std.proofs.lemmas.List.{drop_more}
use Rattle.smv_ast.specs.declared.fault.Fault.{Fault}
use Rattle.std.specs.Prelude.{Option}
use Rattle.smv_meaning.specs.Faults.{ReportsFirst}
use Rattle.smv_meaning.specs.Items.{item_view, items_view}
use Rattle.smv_meaning.specs.Runs.{or_else}
use Rattle.smv_meaning.proofs.FaultLemmas.{reported}
use Rattle.smv_shape.specs.Assigned as spec
use Rattle.smv_shape.proofs.AssignedLemmas.{next_fault, held_more}
use Rattle.smv_shape.proofs.assigned.check_double.Goals as goal

pub returns-in-Some : goal.returns-in-Some
returns-in-Some c =
    let item = c.item-item.result in
    let i = c.loop-item.item-index in
    let tail = drop (i + 1) c.args.items.now in
    let (earlier, held, same) = c.loop-item.invariant in
    let split = drop_more c.args.items.now i item c.loop-item-test.true ∙ ap (λ x. x ∷ tail) (sym c.item-item.is) in
    let found = ap (λ o. or_else o (spec.double_after (item_view item ∷ earlier) (items_view tail))) (sym c.in_ok-fault.ensures ∙ c.in-Some.is) in
    let first : spec.double_after earlier (items_view (drop i c.args.items.now)) ≡ Some c.in-Some.fault =
    ap (λ xs. spec.double_after earlier (items_view xs)) split ∙ (next_fault c.loop-item.lefts earlier held (item_view item) (items_view tail) ∙ found) in
    subst (λ (o : Option Fault). ReportsFirst {A = Unit {0}} o (Err c.in-Some.fault)) (sym first ∙ same) (reported c.in-Some.fault)

pub loop-item-preserved : goal.loop-item-preserved
loop-item-preserved c =
    let item = c.item-item.result in
    let i = c.loop-item.item-index in
    let tail = drop (i + 1) c.args.items.now in
    let (earlier, held, same) = c.loop-item.invariant in
    let split = drop_more c.args.items.now i item c.loop-item-test.true ∙ ap (λ x. x ∷ tail) (sym c.item-item.is) in
    let none = ap (λ o. or_else o (spec.double_after (item_view item ∷ earlier) (items_view tail))) (sym c.in_ok-fault.ensures ∙ c.in-None.is) in (
      item_view item ∷ earlier,
      held_more c.loop-item.lefts c.add_item.new.self earlier (item_view item) c.in_ok-add_item.ensures held,
      sym (ap (λ xs. spec.double_after earlier (items_view xs)) split ∙ (next_fault c.loop-item.lefts earlier held (item_view item) (items_view tail) ∙ none)) ∙ same,
    )
