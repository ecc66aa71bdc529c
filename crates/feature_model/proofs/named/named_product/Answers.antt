use Rattle.std.proofs.Common.{◌∙◌, sym, ap}
use Rattle.feature_model.specs.Products.{has}
use Rattle.feature_model.specs.NamedProducts.{names_at, chosen_by}
use Rattle.feature_model.proofs.NamedLemmas.{with_more, name_unknown, name_again, name_new, none_named}
use Rattle.feature_model.proofs.named.named_product.Goals as goal

pub returns-in-None : goal.returns-in-None
returns-in-None c = none_named c.args.names.now (names_at c.args.listed.now)
    (sym c.loop-name.invariant ∙ name_unknown c.args.names.now c.args.listed.now c.loop-name.name-index _ c.loop-name-test.true (has c.loop-name.bits) (sym c.number_of.ensures ∙ c.in-None.is))

pub returns-then-has_number : goal.returns-then-has_number
returns-then-has_number c = none_named c.args.names.now (names_at c.args.listed.now)
    (sym c.loop-name.invariant ∙ name_again c.args.names.now c.args.listed.now c.loop-name.name-index _ c.loop-name-test.true (has c.loop-name.bits) c.in-Some.feature
    (sym c.number_of.ensures ∙ c.in-Some.is) (sym c.has_number.ensures ∙ c.if-has_number.true))

pub loop-name-preserved : goal.loop-name-preserved
loop-name-preserved c =
    let more = name_new c.args.names.now c.args.listed.now c.loop-name.name-index _ c.loop-name-test.true (has c.loop-name.bits) c.in-Some.feature
    (sym c.number_of.ensures ∙ c.in-Some.is) (sym c.has_number.ensures ∙ c.if-has_number.false) in
    ap (chosen_by c.args.names.now (names_at _)) (with_more c.loop-name.bits c.with-bits.result c.in-Some.feature c.with-bits.ensures.there c.with-bits.ensures.others)
    ∙ sym more ∙ c.loop-name.invariant
