use Rattle.std.proofs.Common.{arith, ◌<◌, ◌+◌, get_or, length, subst, ap, ◌∙◌}
use Rattle.std.proofs.lemmas.List.{length-set}
use Rattle.proof_check.proofs.MarkLemmas.{negated-more}
use Rattle.proof_check.proofs.steps.insert_negations.Goals as goal

pub insert-requires : goal.insert-requires
insert-requires c =
    let room : get_or c.args.lits.now c.loop-lit.lit-index c.lit-item.result + 1 < length c.args.marks.now = c.requires.room c.loop-lit.lit-index c.lit-item.result c.loop-lit-test.true in
    omega arith

pub loop-lit-preserved : goal.loop-lit-preserved
loop-lit-preserved c = record {
  negated = λ m.
      rw (c.insert.ensures, c.negate.ensures.negation)
      (negated-more c.loop-lit.marks c.args.lits.now c.loop-lit.lit-index c.lit-item.result c.loop-lit-test.true c.lit-item.is
      (subst (λ n. n < length c.loop-lit.marks) c.negate.ensures.negation (insert-requires c.before)) c.loop-lit.invariant.negated m);
  length = ap length c.insert.ensures ∙ length-set c.loop-lit.marks c.negate.result _ ∙ c.loop-lit.invariant.length;
}
