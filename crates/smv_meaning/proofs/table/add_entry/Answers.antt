use Rattle.std.proofs.Common.{ℕ, ◌+◌, List, ◌++◌, [], ◌∷◌, Some, Bool, nat_lt, refl, sym, ap, ◌∙◌}
use Rattle.std.proofs.lemmas.Option.{slice_get_within}
use Rattle.std.specs.Option.{option_copied}
use Rattle.smv_meaning.specs.declared.table.Row.{Row}
use Rattle.smv_meaning.specs.declared.table.Slot.{Slot}
use Rattle.smv_meaning.specs.declared.table.Link.{Link}
use Rattle.smv_meaning.specs.declared.table.Binding.TheVariants as held
use Rattle.smv_meaning.specs.Entries.{entry_view, entity_view}
use Rattle.smv_meaning.specs.Scopes.{entries_in}
use Rattle.smv_meaning.specs.InstanceTable.{binding_in_row}
use Rattle.smv_meaning.specs.Paths.{IsInstance}
use Rattle.smv_meaning.proofs.InstanceTableLemmas.{outer_within, deeper_is, binding_alone, binding_instance, slot_right, child_new, rows_more}
use Rattle.smv_meaning.proofs.CountLemmas.{inner_none, inner_one}
use Rattle.smv_meaning.proofs.table.add_entry.Goals as goal

pub binding_in_row-binding-requires : goal.binding_in_row-binding-requires
binding_in_row-binding-requires c = rw c.as_slice.ensures (outer_within c.args.program.now c.args.rows.now c.args.r c.args.row c.requires.rows c.requires.row)

pub returns-in_default-clause-slots : goal.returns-in_default-clause-slots
returns-in_default-clause-slots c =
    let deeper : Bool = nat_lt c.args.row.depth c.len.result in
    let slot : Slot = record { row = c.args.r; name = c.args.entry.name; binding = c.binding_in_row-binding.result } in
    let is = binding_alone c.args.program.now c.args.rows.now c.args.r c.args.row c.args.entry.name.now (entity_view c.args.entry.entity) deeper c.requires.rows c.requires.row
    (deeper_is c.args.program.now c.args.rows.now c.args.r c.args.row c.len.result c.requires.rows c.requires.row c.len.ensures) (sym c.called_by.ensures.called ∙ ap option_copied c.in_default.is) in (
      slot,
      c.in_ok-push.ensures.ok,
      slot_right c.args.program.now c.args.rows.now c.args.r (entry_view c.args.entry) slot _ refl refl
          (c.binding_in_row-binding.ensures ∙ (ap (λ (rows : List Row). binding_in_row rows c.args.row deeper c.len-in_default.result (entity_view c.args.entry.entity)) c.as_slice.ensures ∙ ap (λ (n : ℕ). binding_in_row c.args.rows.now c.args.row deeper n (entity_view c.args.entry.entity)) c.len-in_default.ensures)) is,
    )

pub returns-clause-rows : goal.returns-clause-rows
returns-clause-rows c =
    let link : Link = record { outer = c.args.r; name = c.args.entry.name; called = c.in-Some.called } in
    let child : Row = record { link = Some link; names = c.names_in.result; depth = c.args.row.depth + 1 } in
    let new = child_new c.args.program.now c.args.rows.now c.args.r c.args.row child link c.as_str.result.now c.requires.rows c.requires.row refl refl refl
    (c.names_in.ensures ∙ ap (λ scopes. entries_in scopes c.as_str.result.now) c.requires.scopes) c.as_str.ensures in
    rw c.in_ok-push-3.ensures.ok (rows_more c.args.program.now c.args.rows.now child c.requires.rows new)

pub returns-clause-slots : goal.returns-clause-slots
returns-clause-slots c =
    let deeper : Bool = nat_lt c.args.row.depth c.len.result in
    let link : Link = record { outer = c.args.r; name = c.args.entry.name; called = c.in-Some.called } in
    let child : Row = record { link = Some link; names = c.names_in.result; depth = c.args.row.depth + 1 } in
    let slot : Slot = record { row = c.args.r; name = c.args.entry.name; binding = held.Instance c.len-2.result } in
    let is = binding_instance c.args.program.now c.args.rows.now c.args.r child link c.args.entry.name.now (entity_view c.args.entry.entity) deeper (slice_get_within c.args.rows.now c.args.r c.args.row c.requires.row)
    (deeper_is c.args.program.now c.args.rows.now c.args.r c.args.row c.len.result c.requires.rows c.requires.row c.len.ensures) refl refl refl (sym (ap option_copied c.in-Some.is) ∙ c.called_by.ensures.called) in
    rw c.in_ok-push-3.ensures.ok (slot, c.in_ok-push-2.ensures.ok, slot_right c.args.program.now (c.args.rows.now ++ child ∷ []) c.args.r (entry_view c.args.entry) slot _ refl refl (ap IsInstance c.len-2.ensures) is)

pub returns-in_default-clause-inner : goal.returns-in_default-clause-inner
returns-in_default-clause-inner c =
    inner_none c.args.program.now c.args.rows.now c.args.r (entry_view c.args.entry) (nat_lt c.args.row.depth c.len.result)
    (deeper_is c.args.program.now c.args.rows.now c.args.r c.args.row c.len.result c.requires.rows c.requires.row c.len.ensures) (sym c.called_by.ensures.called ∙ ap option_copied c.in_default.is)

pub returns-clause-inner : goal.returns-clause-inner
returns-clause-inner c =
    let link : Link = record { outer = c.args.r; name = c.args.entry.name; called = c.in-Some.called } in
    let child : Row = record { link = Some link; names = c.names_in.result; depth = c.args.row.depth + 1 } in
    rw c.in_ok-push-3.ensures.ok (inner_one c.args.program.now c.args.rows.now c.args.r (entry_view c.args.entry) (nat_lt c.args.row.depth c.len.result) child link
    (deeper_is c.args.program.now c.args.rows.now c.args.r c.args.row c.len.result c.requires.rows c.requires.row c.len.ensures) refl refl refl (sym c.called_by.ensures.called ∙ ap option_copied c.in-Some.is))
