use Rattle.std.proofs.Common.{◌≡◌, ◌&&◌, ◌≤◌, ℕ, Bool, true, false, not, List, take, length, arith, ap, ◌∙◌, refl}
use Rattle.std.proofs.lemmas.List.{take_all}
use Rattle.sat_arena.specs.Trails.{marked}
use Rattle.sat_search.specs.Assumed.{assumed}
use Rattle.sat_search.proofs.literal_set.remove_all.Goals as goal

neither : (b : Bool) → (b && not b) ≡ false
neither true = refl
neither false = refl

pub returns : goal.returns
returns c l =
    let lits : List ℕ = c.args.lits.now in
    let whole : take c.loop-lit.lit-index lits ≡ lits = take_all c.loop-lit.lit-index lits (omega (arith, c.loop-lit-test.false)) in
    c.loop-lit.invariant.cleared l
    ∙ ap (λ b. b && not (assumed (take c.loop-lit.lit-index lits) l)) (c.requires.same l)
    ∙ ap (λ (xs : List ℕ). assumed lits l && not (assumed xs l)) whole
    ∙ neither (assumed lits l)
