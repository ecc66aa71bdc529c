use Rattle.std.proofs.Common.{◌∙◌, sym, ap, pos, get_or, rules, ℤ}
use Rattle.std.specs.Prelude.{FitsSigned}
use Rattle.std.specs.Int.{w64}
use Rattle.std.proofs.lemmas.Int.{to_z-of_z}
use Rattle.std.proofs.lemmas.List.Sums.{fold_more}
use Rattle.flat_model.specs.declared.intervals.Interval.{Interval}
use Rattle.flat_model.specs.Intervals.{hull, alone}
use Rattle.flat_model.proofs.intervals.hull_with.Goals as goal

pub loop-number-preserved : goal.loop-number-preserved
loop-number-preserved c =
    let number : ℤ = get_or c.args.numbers.now c.loop-number.number-index (pos 0) in
    let fits : FitsSigned w64 number = search rules in
    c.hull-held.ensures
    ∙ ap (hull c.loop-number.held) (c.alone.ensures ∙ ap alone (to_z-of_z w64 number fits))
    ∙ ap (λ (i : Interval). hull i (alone number)) c.loop-number.invariant
    ∙ sym (fold_more (λ held n. hull held (alone n)) c.args.first c.args.numbers.now c.loop-number.number-index (pos 0) c.loop-number-test.true)
