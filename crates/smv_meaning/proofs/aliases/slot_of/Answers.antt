use Rattle.std.proofs.Common.{◌≡◌, sym, ◌∙◌, arith, Some}
use Rattle.std.specs.Prelude.{slice_get}
use Rattle.smv_meaning.proofs.SlotLemmas.{slot_within}
use Rattle.smv_meaning.proofs.aliases.slot_of.Goals as goal

pub prove-unreachable-requires : goal.prove-unreachable-requires
prove-unreachable-requires c =
    let first : slice_get c.args.table.now.firsts c.args.row ≡ Some c.in-Some.first = rw c.as_slice.ensures at (sym c.at.ensures ∙ (sym c.copied.ensures ∙ c.in-Some.is)) in
    let row : slice_get c.args.table.now.rows c.args.row ≡ Some c.in-Some-copied.found = rw c.as_slice-2.ensures at (sym c.at-2.ensures ∙ (sym c.copied-2.ensures ∙ c.in-Some-copied.is)) in
    omega (arith, slot_within c.args.table.now c.args.row c.in-Some.first c.in-Some-index_of.k c.args.name.now c.in-Some-copied.found c.requires first row (sym c.in-Some-index_of.ensures))

pub overflow_add-result : goal.overflow_add-result
overflow_add-result c =
    let first : slice_get c.args.table.now.firsts c.args.row ≡ Some c.in-Some.first = rw c.as_slice.ensures at (sym c.at.ensures ∙ (sym c.copied.ensures ∙ c.in-Some.is)) in
    let row : slice_get c.args.table.now.rows c.args.row ≡ Some c.in-Some-copied.found = rw c.as_slice-2.ensures at (sym c.at-2.ensures ∙ (sym c.copied-2.ensures ∙ c.in-Some-copied.is)) in
    omega (arith, slot_within c.args.table.now c.args.row c.in-Some.first c.in-Some-index_of.k c.args.name.now c.in-Some-copied.found c.requires first row (sym c.in-Some-index_of.ensures))
