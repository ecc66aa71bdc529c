use Rattle.std.proofs.Common.{◌∙◌, ap, rules, ℤ}
use Rattle.std.specs.Prelude.{FitsSigned}
use Rattle.std.specs.Int.{w64}
use Rattle.std.proofs.lemmas.Int.{to_z-of_z}
use Rattle.flat_model.specs.declared.intervals.Interval.{Interval}
use Rattle.flat_model.specs.Intervals.{hull, multiples}
use Rattle.flat_model.proofs.intervals.product.Goals as goal

pub returns : goal.returns
returns c =
    let low : FitsSigned w64 c.args.a.low = search rules in
    let high : FitsSigned w64 c.args.a.high = search rules in
    c.hull.ensures
    ∙ ap (λ (i : Interval). hull i c.multiples-2.result) (c.multiples.ensures ∙ ap (λ (z : ℤ). multiples z c.args.b) (to_z-of_z w64 c.args.a.low low))
    ∙ ap (hull (multiples c.args.a.low c.args.b)) (c.multiples-2.ensures ∙ ap (λ (z : ℤ). multiples z c.args.b) (to_z-of_z w64 c.args.a.high high))
