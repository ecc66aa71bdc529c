use Rattle.std.proofs.Common.{◌≡◌, map, length, sym, ◌∙◌, arith}
use Rattle.std.proofs.lemmas.List.{length-map}
use Rattle.smv_meaning.specs.declared.value.Value.TheVariants as value
use Rattle.integrate.proofs.TypeLemmas.{lengths_differ}
use Rattle.integrate.proofs.types.same_symbols.Goals as goal

pub returns-then-a-b : goal.returns-then-a-b
returns-then-a-b c = sym (lengths_differ (map (λ v. value.Symbol v) c.args.a.now) (map (λ v. value.Symbol v) c.args.b.now)
    (λ e. let same : length c.args.a.now ≡ length c.args.b.now = sym (length-map c.args.a.now (λ v. value.Symbol v)) ∙ (e ∙ length-map c.args.b.now (λ v. value.Symbol v)) in omega (arith, same)))
