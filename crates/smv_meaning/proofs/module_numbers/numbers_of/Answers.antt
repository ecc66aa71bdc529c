use Rattle.std.proofs.Common.{refl, ◌≡◌, ◌+◌, ◌∷◌, drop, sym, ap, ◌∙◌, subst}
use Rattle.std.proofs.lemmas.List.{drop_more}
use Rattle.std.specs.Prelude.{is_some}
use Rattle.smv_meaning.specs.Indices.{number_held}
use Rattle.smv_meaning.proofs.ModuleNumberLemmas.{number_or, number_old, number_new, number_held_empty}
use Rattle.smv_meaning.proofs.module_numbers.numbers_of.Goals.{then-not-contains_key+in_ok-insert, else-not-contains_key}
use Rattle.smv_meaning.proofs.module_numbers.numbers_of.Goals as goal

pub loop-owner-init : goal.loop-owner-init
loop-owner-init c = record { count = refl; numbered = λ name. number_held_empty c.new-numbers.result c.args.program.now.modules name c.new-numbers.ensures.empty }

pub loop-owner-preserved : goal.loop-owner-preserved
loop-owner-preserved c = record {
  count = ap (λ n. n + 1) c.loop-owner.invariant.count;
  numbered = λ name.
      let i = c.loop-owner.owner-index in
      let m = c.owner-item.result in
      let items = c.as_slice-owner-items.result.now in
      let split = subst (λ ms. drop i ms ≡ m ∷ drop (i + 1) ms) c.as_slice-owner-items.ensures (drop_more items i m c.loop-owner-test.true ∙ ap (λ x. x ∷ drop (i + 1) items) (sym c.owner-item.is)) in
      let tail = drop (i + 1) c.args.program.now.modules in
      let before = sym (ap (λ ms. number_or c.loop-owner.numbers c.loop-owner.number ms name) split) ∙ c.loop-owner.invariant.numbered name in
      let has = ap (λ x. is_some (number_held c.loop-owner.numbers x)) (sym c.as_str-name.ensures) ∙ sym c.contains_key.ensures in
      elim c.if-not-contains_key.branch [
        | then-not-contains_key+in_ok-insert w ↦
            ap (λ n. number_or n (c.loop-owner.number + 1) tail name) w.numbers-is ∙ (sym (number_new c.loop-owner.numbers w.insert.new.self c.loop-owner.number m tail c.as_str-name.result name c.as_str-name.ensures (has ∙ w.if-not-contains_key.true) w.in_ok-insert.ensures.updates) ∙ before)
        | else-not-contains_key w ↦
            ap (λ n. number_or n (c.loop-owner.number + 1) tail name) w.numbers-is ∙ (sym (number_old c.loop-owner.numbers c.loop-owner.number m tail name (has ∙ w.if-not-contains_key.false)) ∙ before)
      ];
}
