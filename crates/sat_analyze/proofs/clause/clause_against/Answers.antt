use Rattle.std.proofs.Common.{◌≡◌, ℕ, List, map, length, subst, sym, ap, ◌∙◌, arith}
use Rattle.std.specs.List.Sorted.{IsPermutation}
use Rattle.std.proofs.lemmas.List.{with_items_is}
use Rattle.sat_lits.specs.Literals.{negation}
use Rattle.sat_analyze.proofs.ClauseLemmas.{own_negations, rising_lits, negated_more, all_negated}
use Rattle.sat_analyze.proofs.clause.clause_against.Goals as goal

pub loop-lit-preserved : goal.loop-lit-preserved
loop-lit-preserved c =
    negated_more c.args.lits.items c.loop-lit.lit-items c.loop-lit.lit-index c.negate.result c.lit-item.result (omega (arith, ap length c.deref_mut-lit-items.ensures.value)) c.loop-lit.invariant c.negate.ensures.negation

pub unwrap-requires : goal.unwrap-requires
unwrap-requires c =
    let all : c.loop-lit.lit-items ≡ map negation c.args.lits.items = all_negated c.args.lits.items c.loop-lit.lit-items c.loop-lit.lit-index (omega (arith, ap length c.deref_mut-lit-items.ensures.value)) c.loop-lit.invariant in
    let long : length c.loop-lit.lit-items ≡ length c.args.lits.items = c.loop-lit.auto.lit-items ∙ ap length c.deref_mut-lit-items.ensures.value in
    let moved : IsPermutation (map negation c.args.lits.items) c.sort.new.lits.items
    = subst (λ (xs : List ℕ). IsPermutation xs c.sort.new.lits.items) (with_items_is c.args.lits c.loop-lit.lit-items (long ∙ sym c.args.lits.ok.0) ∙ all) c.sort.ensures.moved in
    c.new.ensures.exact.1 (rising_lits c.sort.new.lits.items (own_negations c.args.lits.items c.sort.new.lits.items c.requires moved) c.sort.ensures.sorted)
