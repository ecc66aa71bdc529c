use Rattle.std.proofs.Common.{◌≡◌, sym, ap, ◌∙◌, arith, Some}
use Rattle.smv_meaning.specs.Value.{Name}
use Rattle.fixpoint.specs.Fixpoints.{entry}
use Rattle.smv_meaning.specs.Slots.{slot_of, by_slot}
use Rattle.smv_meaning.proofs.SlotLemmas.{resolve_last, resolve_more}
use Rattle.smv_meaning.proofs.aliases.resolve.Goals as goal

pub returns-then-left-eq0 : goal.returns-then-left-eq0
returns-then-left-eq0 c =
    c.slot_of.ensures ∙ (ap (λ (n : Name). slot_of c.args.table.now (record { instance = c.loop-name.row; name = n })) c.as_str.ensures
    ∙ (sym (resolve_last c.args.table.now c.args.names.now c.loop-name.name-index c.loop-name.row c.name-item.result c.requires.has (omega arith) c.name-item.is) ∙ c.loop-name.invariant.same))

pub loop-name-preserved : goal.loop-name-preserved
loop-name-preserved c =
    let below : by_slot c.args.table.now (entry c.args.aliases.now) (record { instance = c.loop-name.row; name = c.name-item.result }) ≡ Some c.in-Some.below =
    ap (λ (n : Name). by_slot c.args.table.now (entry c.args.aliases.now) (record { instance = c.loop-name.row; name = n })) (sym c.as_str-in-loop-name.ensures) ∙ (sym c.entry_of.ensures ∙ c.in-Some.is) in
    record {
      left = omega arith;
      same = sym (resolve_more c.args.table.now c.args.aliases.now c.args.names.now c.loop-name.name-index c.loop-name.row c.in-Some.below c.name-item.result c.requires.is_of (omega arith) c.name-item.is below) ∙ c.loop-name.invariant.same;
    }
