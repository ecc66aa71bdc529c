use Rattle.std.proofs.Common.{◌≡◌, ◌<◌, ◌+◌, ◌++◌, ◌∷◌, [], ℕ, List, Option, length, get_or, take, arith, sym, ◌∙◌, ap, subst}
use Rattle.std.proofs.lemmas.List.{take_more, take_all, get_or_default}
use Rattle.proof_log.specs.Standing.{IsFirstUnit}
use Rattle.proof_log.proofs.StandingLemmas.{IsFirstUnit-push}
use Rattle.proof_log.proofs.log.first_unit.Goals as goal

pub loop-lit-preserved : goal.loop-lit-preserved
loop-lit-preserved c =
    let table = c.args.numbers.now in
    let lits = c.args.lits.now in
    let i = c.loop-lit.lit-index in
    let item = c.lit-item.result in
    let within : i < length lits = c.loop-lit-test.true in
    let more : take (i + 1) lits ≡ take i lits ++ item ∷ [] = take_more lits i 0 within ∙ ap (λ (x : ℕ). take i lits ++ x ∷ []) (get_or_default lits i 0 item within ∙ sym c.lit-item.is) in
    subst (λ (ls : List ℕ). IsFirstUnit table ls c.earlier-first.result) (sym more)
    (subst (λ (o : Option ℕ). IsFirstUnit table (take i lits ++ item ∷ []) o) (sym c.earlier-first.ensures)
    (IsFirstUnit-push table (take i lits) item c.loop-lit.first c.get.result (sym c.get.ensures) c.loop-lit.invariant))

pub returns : goal.returns
returns c =
    subst (λ (ls : List ℕ). IsFirstUnit c.args.numbers.now ls c.loop-lit.first) (take_all c.loop-lit.lit-index c.args.lits.now c.loop-lit-test.false) c.loop-lit.invariant
