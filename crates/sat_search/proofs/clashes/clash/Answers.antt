use Rattle.std.proofs.Common.{◌≡◌, ◌==◌, false, sym, ◌∙◌, ap, below_more, get_or, arith}
use Rattle.std.specs.List.{list_any}
use Rattle.std.proofs.lemmas.Bool.{false≢true}
use Rattle.std.proofs.lemmas.List.{get_or_default}
use Rattle.sat_lits.specs.Literals.{negation}
use Rattle.sat_search.proofs.ClashLemmas.{no_clash}
use Rattle.sat_search.proofs.clashes.clash.Goals as goal

pub loop-lit-preserved : goal.loop-lit-preserved
loop-lit-preserved c =
    let lits = c.args.lits.now in
    let same : negation (get_or lits c.loop-lit.lit-index 0) ≡ c.negate.result = ap negation (sym (c.lit-item.is ∙ get_or_default lits c.loop-lit.lit-index c.lit-item.result 0 (omega arith))) ∙ sym c.negate.ensures.negation in
    below_more (λ k. list_any (λ x. x == negation (get_or lits k 0)) lits ≡ false) c.loop-lit.lit-index c.loop-lit.invariant
    (ap (λ n. list_any (λ x. x == n) lits) same ∙ sym c.contains.ensures.value ∙ c.if-contains.false)

pub returns : goal.returns
returns c = (λ no. absurd (false≢true no), λ clash. absurd (no_clash c.args.lits.now (λ k within. c.loop-lit.invariant k (omega arith)) clash))
