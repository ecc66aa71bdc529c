use Rattle.std.proofs.Common.{◌≡◌, ℕ, false, true, List, ◌∙◌, ap, subst}
use Rattle.feature_model.specs.NamedProducts.{IsNamed, names_at}
use Rattle.fsmv_top.proofs.TextLemmas.{chosen_invalid}
use Rattle.fsmv_top.proofs.weave.valid_product.Goals as goal

pub returns-in-Some : goal.returns-in-Some
returns-in-Some c =
    let listed = names_at c.as_slice-2.result.now in
    let named = subst (λ (names : List (List ℕ)). IsNamed names listed c.in-Some.product) c.as_slice.ensures c.in-Some.ensures in
    chosen_invalid c.args.model.now c.args.list.now listed (ap names_at c.as_slice-2.ensures.value ∙ c.in_ok-names.ensures) c.in-Some.product named (λ valid. let both : false ≡ true = c.if-is_valid.ensures.1 valid in cc)
